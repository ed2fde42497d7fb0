use Rattle.std.proofs.Common.{◌∙◌, Some, true, Bool, List, refl, ap, set, is_some}
use Rattle.std.proofs.lemmas.List.{map-set}
use Rattle.ep_registry.proofs.free.Frees.put.Goals as goal

pub returns : goal.returns
returns g c = map-set is_some c.self.inside.places.items c.args.slot (Some c.args.free) ∙ ap (λ (bs : List Bool). set bs c.args.slot true) (rw c.self.view_is refl)
