use Rattle.std.proofs.Common.{◌≡◌, ◌∙◌, ℕ, ◌+◌, Some, ap, sym, subst}
use Rattle.std.specs.Prelude.{slice_get}
use Rattle.ep_guarded.specs.declared.agreed.Agreed.TheVariants as agreed
use Rattle.ep_guarded.specs.Tied.{TiedRowState, stand_in}
use Rattle.ep_guarded.proofs.Resting.{row-begun, standing}
use Rattle.ep_guarded.proofs.row.TiedRow.begin.Goals as goal

pub begin-requires-clause-stays : goal.begin-requires-clause-stays
begin-requires-clause-stays g c = (standing c.self.inside.row _ (sym c.set.ensures.equal ∙ c.self.invariant.stands) c.requires.here).0

pub begin-requires-clause-few : goal.begin-requires-clause-few
begin-requires-clause-few g c = c.requires.few _ (ap stand_in (standing c.self.inside.row _ (sym c.set.ensures.equal ∙ c.self.invariant.stands) c.requires.here).1)

pub invariant_of-self : goal.invariant_of-self
invariant_of-self g c =
    let here = standing c.self.inside.row _ (sym c.set.ensures.equal ∙ c.self.invariant.stands) c.requires.here in
    let next = c.requires.next _ (ap stand_in here.1) in
    row-begun _ _ _ _ c.self.inside.row c.begin.new.self c.args.stamp c.args.write.now _ c.self.inside.writer c.set.new.self c.self.invariant here.0 c.begin.ensures.rest c.begin.ensures.row next c.set.ensures.place.0 (c.set.ensures.value.0 ∙ ap (λ (t : ℕ). Some (agreed.Stand (record { thread = t; index = c.index.result + 1 }))) c.thread.ensures ∙ ap (λ (i : ℕ). Some (agreed.Stand (record { thread = c.self.inside.row.thread; index = i + 1 }))) c.index.ensures)

pub returns-clause-write : goal.returns-clause-write
returns-clause-write g c =
    let here = standing c.self.inside.row _ (sym c.set.ensures.equal ∙ c.self.invariant.stands) c.requires.here in
    let next = c.requires.next _ (ap stand_in here.1) in
    subst (λ (r : TiedRowState). slice_get (g.P.Program.writes r.row.thread) r.row.index ≡ Some c.args.write.now) c.self.view_is next

pub returns-clause-stood : goal.returns-clause-stood
returns-clause-stood g c =
    let here = standing c.self.inside.row _ (sym c.set.ensures.equal ∙ c.self.invariant.stands) c.requires.here in
    here.1 ∙ ap (λ (r : TiedRowState). Some (agreed.Stand (record { thread = r.row.thread; index = r.row.index }))) c.self.view_is
