use Rattle.std.proofs.Common.{Some, ap, sym, ◌∙◌}
use Rattle.ep_registry.proofs.Numbered.{in-place-set, half-at, value-at, values-same}
use Rattle.ep_registry.proofs.ends.Ends.meet.Goals as goal

pub meet-requires : goal.meet-requires
meet-requires g c =
    let at = half-at c.self.inside.halves.items c.args.self.now c.args.place c.index_mut-half.result.now c.self.view_is c.requires.place.1 c.index_mut-half.ensures.value in
    record { one_place = c.self.invariant c.args.place c.index_mut-half.result.now at ∙ sym c.requires.place.0 }

pub invariant_of-self : goal.invariant_of-self
invariant_of-self g c =
    let at = half-at c.self.inside.halves.items c.args.self.now c.args.place c.index_mut-half.result.now c.self.view_is c.requires.place.1 c.index_mut-half.ensures.value in
    in-place-set c.self.inside.halves.items c.args.place c.meet.new.self c.self.invariant (ap (λ h. h.place) c.meet.ensures.same.0 ∙ c.self.invariant c.args.place c.index_mut-half.result.now at)

pub returns-clause-equal : goal.returns-clause-equal
returns-clause-equal g c =
    let at = half-at c.self.inside.halves.items c.args.self.now c.args.place c.index_mut-half.result.now c.self.view_is c.requires.place.1 c.index_mut-half.ensures.value in
    value-at c.self.inside.halves.items c.args.self.now c.args.place c.index_mut-half.result.now c.self.view_is at ∙ ap (λ v. Some v) c.meet.ensures.equal

pub returns-clause-same : goal.returns-clause-same
returns-clause-same g c = (
  values-same c.self.inside.halves.items c.args.self.now c.args.place c.index_mut-half.result.now c.meet.new.self c.self.view_is c.index_mut-half.ensures.value c.meet.ensures.same.0,
  c.meet.ensures.same.1,
)
