use Rattle.std.proofs.Common.{◌<◌, refl, ap, arith}
use Rattle.ep_defs.specs.declared.limits.TheConstants.{WRITES}
use Rattle.ep_slot.specs.contracts.slot.Slot.{the_view}
use Rattle.ep_slot.specs.Slot.{SlotState}
use Rattle.ep_slot.specs.Chain.{pending_of}
use Rattle.ep_slot.proofs.Slots.{held-record, held-refusal, few-held}
use Rattle.ep_slot.proofs.slot.Slot.show.Goals as goal

pub keep-requires-clause-few : goal.keep-requires-clause-few
keep-requires-clause-few g c =
    let few = few-held _ _ _ c.self.invariant refl in
    omega (arith, c.self.invariant.few)

pub invariant_of-self : goal.invariant_of-self
invariant_of-self g c =
    let old : SlotState = the_view c.self.inside in
    let few : old.used < WRITES = omega (arith, ap (λ (s : SlotState). s.used) c.self.view_is, c.requires.few) in
    held-record c.self.inside.pending old c.self.inside.chain c.keep.new.chain _ (pending_of c.keep.new.chain) c.self.invariant
    c.if-keep.ensures.records refl refl few (c.if-keep.ensures.filled c.self.invariant.filled)

pub invariant_of-self-else-keep : goal.invariant_of-self-else-keep
invariant_of-self-else-keep g c =
    let old : SlotState = the_view c.self.inside in
    let few : old.used < WRITES = omega (arith, ap (λ (s : SlotState). s.used) c.self.view_is, c.requires.few) in
    held-refusal c.self.inside.pending old c.self.inside.chain c.keep.new.chain (pending_of c.keep.new.chain) c.self.invariant few
    c.if-keep.ensures.records (c.if-keep.ensures.filled c.self.invariant.filled)
