use Rattle.std.proofs.Common.{◌∙◌, ◌+◌, ℕ, Some, ap, sym, arith, rules}
use Rattle.ep_guarded.specs.declared.agreed.Agreed.TheVariants as agreed
use Rattle.ep_guarded.specs.Tied.{stand_in}
use Rattle.ep_guarded.proofs.Resting.{row-passed, standing, unwanted}
use Rattle.ep_guarded.proofs.row.TiedRow.pass_over.Goals as goal

pub is_unwanted-requires-clause-events : goal.is_unwanted-requires-clause-events
is_unwanted-requires-clause-events g c = omega (arith, c.requires.event, c.self.invariant.over.events_are)

pub pass_over-requires-clause-stays : goal.pass_over-requires-clause-stays
pass_over-requires-clause-stays g c = (standing c.self.inside.row _ (sym c.set.ensures.equal ∙ c.self.invariant.stands) c.requires.here).0

pub pass_over-requires-clause-few : goal.pass_over-requires-clause-few
pass_over-requires-clause-few g c = c.requires.few _ (ap stand_in (standing c.self.inside.row _ (sym c.set.ensures.equal ∙ c.self.invariant.stands) c.requires.here).1)

pub invariant_of-self : goal.invariant_of-self
invariant_of-self g c =
    let here = standing c.self.inside.row _ (sym c.set.ensures.equal ∙ c.self.invariant.stands) c.requires.here in
    let next = c.requires.next _ (ap stand_in here.1) in
    let none = c.is_unwanted.ensures.0 (search (c.if-is_unwanted, rules)) in
    let keeps = c.pass_over.ensures.rest next.write (unwanted _ _ _ c.self.inside.row c.args.event next.write c.self.invariant.over next.event_is c.requires.some c.requires.event none) in
    row-passed _ _ _ _ c.self.inside.row c.pass_over.new.self next.write _ c.self.inside.writer c.set.new.self c.self.invariant here.0 keeps c.pass_over.ensures.row next.next c.set.ensures.place.0 (c.set.ensures.value.0 ∙ ap (λ (t : ℕ). Some (agreed.Stand (record { thread = t; index = c.index.result + 1 }))) c.thread.ensures ∙ ap (λ (i : ℕ). Some (agreed.Stand (record { thread = c.self.inside.row.thread; index = i + 1 }))) c.index.ensures)
