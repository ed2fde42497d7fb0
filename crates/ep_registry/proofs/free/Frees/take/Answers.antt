use Rattle.std.proofs.Common.{◌∙◌, false, Bool, List, map, refl, ap, set, is_some}
use Rattle.std.proofs.lemmas.List.{map-set}
use Rattle.ep_registry.proofs.free.Frees.take.Goals as goal

pub returns-clause-after : goal.returns-clause-after
returns-clause-after g c =
    map-set is_some c.self.inside.places.items c.args.slot c.take.new.self ∙ ap (λ (b : Bool). set (map is_some c.self.inside.places.items) c.args.slot b) (ap is_some c.take.ensures.after)
    ∙ ap (λ (bs : List Bool). set bs c.args.slot false) (rw c.self.view_is refl)
