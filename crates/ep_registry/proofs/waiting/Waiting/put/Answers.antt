use Rattle.std.proofs.Common.{Some, ap, sym, ◌∙◌}
use Rattle.std.proofs.lemmas.List.{length-set}
use Rattle.ep_registry.specs.declared.hold.Hold.{Hold}
use Rattle.ep_registry.proofs.Numbered.{in-slots-put}
use Rattle.ep_registry.proofs.waiting.Waiting.put.Goals as goal

pub invariant_of-self : goal.invariant_of-self
invariant_of-self g c = (
  length-set c.self.inside.places.items c.hold-slot.result.slot (Some c.args.handed) ∙ c.self.invariant.0,
  in-slots-put c.self.inside.places.items c.hold-slot.result.slot c.args.handed c.self.invariant.1 (ap (λ (k : Hold). k.slot) (sym c.hold-slot.ensures.value)),
)
