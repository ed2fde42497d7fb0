use Rattle.std.proofs.Common.{◌≡◌, ◌∙◌, ◌<◌, ◌-◌, Some, refl, ap, sym, subst, arith}
use Rattle.std.specs.Prelude.{slice_get}
use Rattle.std.specs.Int.{bit_at}
use Rattle.ep_guarded.specs.Tied.{TiedRowState}
use Rattle.std.proofs.lemmas.Option.{slice_get_read}
use Rattle.ep_guarded.proofs.Resting.{tells-due, row-shown}
use Rattle.ep_guarded.proofs.row.TiedRow.show.Goals as goal

pub show-requires-clause-due : goal.show-requires-clause-due
show-requires-clause-due g c =
    let at = slice_get_read c.self.inside.buffers.items _ c.args.slot c.index_mut.result.now refl (omega (arith, c.self.invariant.count, c.requires.within)) c.index_mut.ensures.value in
    tells-due _ _ _ _ c.self.inside.row _ _ c.index_mut.result.now c.args.slot c.args.write.now c.self.invariant c.requires.within
    (ap (λ (r : TiedRowState). bit_at r.row.due c.args.slot) c.self.view_is ∙ c.requires.due)
    (subst (λ (r : TiedRowState). 0 < r.row.index) (sym c.self.view_is) c.requires.begun)
    (subst (λ (r : TiedRowState). slice_get (g.P.Program.writes r.row.thread) (r.row.index - 1) ≡ Some c.args.write.now) (sym c.self.view_is) c.requires.last)
    at

pub invariant_of-self : goal.invariant_of-self
invariant_of-self g c =
    let at = slice_get_read c.self.inside.buffers.items _ c.args.slot c.index_mut.result.now refl (omega (arith, c.self.invariant.count, c.requires.within)) c.index_mut.ensures.value in
    row-shown _ _ _ _ c.self.inside.row c.show.new.row _ _ c.index_mut.result.now c.show.new.half c.args.slot c.self.invariant at c.show.ensures.places.1 c.show.ensures.shown
