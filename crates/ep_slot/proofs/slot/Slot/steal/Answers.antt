use Rattle.std.proofs.Common.{refl, arith}
use Rattle.ep_slot.specs.contracts.slot.Slot.{the_view}
use Rattle.ep_slot.specs.Chain.{pending_of}
use Rattle.ep_slot.proofs.Slots.{held-steal, few-held}
use Rattle.ep_slot.proofs.slot.Slot.steal.Goals as goal

pub overflow_add-self-2 : goal.overflow_add-self-2
overflow_add-self-2 c =
    let few = few-held _ _ _ c.self.invariant refl in
    omega (arith, c.self.invariant.few, c.count.ensures)

pub invariant_of-self : goal.invariant_of-self
invariant_of-self c =
    held-steal c.self.inside.pending c.count.result (the_view c.self.inside) c.self.inside.chain c.take.new.self (pending_of c.take.new.self)
    c.self.invariant refl c.count.ensures c.take.ensures.none
