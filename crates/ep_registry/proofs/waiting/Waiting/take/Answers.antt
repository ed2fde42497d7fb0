use Rattle.std.proofs.Common.{◌≡◌, ◌<◌, Some, None, Option, length, slice_get, ap, sym, ◌∙◌, arith}
use Rattle.std.proofs.lemmas.List.{length-set}
use Rattle.std.proofs.lemmas.Option.{slice_get-get_or}
use Rattle.ep_registry.specs.declared.hold.Hold.{Hold}
use Rattle.ep_registry.proofs.Numbered.{in-slots-take, in-slot}
use Rattle.ep_registry.proofs.waiting.Waiting.take.Goals as goal

pub invariant_of-self : goal.invariant_of-self
invariant_of-self g c =
    rw c.take.ensures.after (
      length-set c.self.inside.places.items c.args.slot None ∙ c.self.invariant.0,
      in-slots-take c.self.inside.places.items c.args.slot c.self.invariant.1,
    )

pub returns-clause-value : goal.returns-clause-value
returns-clause-value g c =
    let l : c.args.slot < length c.self.inside.places.items = omega (arith, c.requires, c.self.invariant.0) in
    let there = slice_get-get_or c.self.inside.places.items c.args.slot c.index_mut.result.now l in
    rw (← c.self.view_is, c.take.ensures.value) (there ∙ ap (λ (o : Option Hold). let q : Option (Option Hold) = Some o in q) (sym c.index_mut.ensures.value))

pub returns-clause-slot : goal.returns-clause-slot
returns-clause-slot g c =
    let l : c.args.slot < length c.self.inside.places.items = omega (arith, c.requires, c.self.invariant.0) in
    let there = slice_get-get_or c.self.inside.places.items c.args.slot c.index_mut.result.now l in
    let at : slice_get c.self.inside.places.items c.args.slot ≡ Some c.index_mut.result.now = there ∙ ap (λ (o : Option Hold). let q : Option (Option Hold) = Some o in q) (sym c.index_mut.ensures.value) in
    rw c.take.ensures.value (in-slot c.self.inside.places.items c.args.slot c.index_mut.result.now c.self.invariant.1 at)
