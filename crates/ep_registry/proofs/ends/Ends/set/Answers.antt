use Rattle.std.proofs.Common.{refl, ap, sym, ◌∙◌, map, set}
use Rattle.std.proofs.lemmas.List.{map-set}
use Rattle.ep_registry.specs.Places.{value_of}
use Rattle.ep_registry.proofs.Numbered.{in-place-set, half-at}
use Rattle.ep_registry.proofs.ends.Ends.set.Goals as goal

pub returns-clause-here : goal.returns-clause-here
returns-clause-here g c =
    map-set value_of c.self.inside.halves.items c.args.place c.set.new.self ∙ ap (set (map value_of c.self.inside.halves.items) c.args.place) c.set.ensures.value.0 ∙ sym (rw c.self.view_is refl)

pub set-requires : goal.set-requires
set-requires g c =
    let at = half-at c.self.inside.halves.items c.args.self.now c.args.place c.index_mut-half.result.now c.self.view_is c.requires.place.1 c.index_mut-half.ensures.value in
    record { one_place = c.self.invariant c.args.place c.index_mut-half.result.now at ∙ sym c.requires.place.0 }

pub invariant_of-self : goal.invariant_of-self
invariant_of-self g c =
    let at = half-at c.self.inside.halves.items c.args.self.now c.args.place c.index_mut-half.result.now c.self.view_is c.requires.place.1 c.index_mut-half.ensures.value in
    in-place-set c.self.inside.halves.items c.args.place c.set.new.self c.self.invariant (c.set.ensures.place.0 ∙ c.self.invariant c.args.place c.index_mut-half.result.now at)

pub returns-clause-there : goal.returns-clause-there
returns-clause-there g c = (c.set.ensures.place.1 ∙ c.requires.place.0, c.set.ensures.value.1)
