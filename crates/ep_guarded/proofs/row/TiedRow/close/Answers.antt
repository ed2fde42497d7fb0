use Rattle.std.proofs.Common.{◌≡◌, ◌∙◌, ℕ, List, Some, refl, ap, sym, subst, arith}
use Rattle.std.specs.List.{All}
use Rattle.std.proofs.lemmas.Option.{slice_get_read}
use Rattle.ep_slot.specs.Hand.{HandState, hand_of}
use Rattle.ep_row.specs.declared.row.Opening.{Opening}
use Rattle.ep_guarded.specs.declared.grant.Grant.{Grant}
use Rattle.ep_guarded.specs.declared.kept.Kept.{Kept}
use Rattle.ep_chunk.specs.Record.{Record}
use Rattle.ep_slot.specs.Chain.{records_of}
use Rattle.ep_row.specs.AtRest.{IsNumbered}
use Rattle.ep_guarded.specs.Tied.{TiedRowState, grant_in, AreMarks}
use Rattle.ep_guarded.proofs.Openings.{hand-kept, grant-kept, told-slot, told-thread, told-config, row-closed, are-counted}
use Rattle.ep_guarded.proofs.row.TiedRow.close.Goals as goal

pub close-requires-clause-open : goal.close-requires-clause-open
close-requires-clause-open g c =
    let at = slice_get_read c.self.inside.buffers.items _ c.args.site.slot c.index_mut.result.now refl (omega (arith, c.self.invariant.count, c.requires.can.slot_is)) c.index_mut.ensures.value in
    let told = c.self.invariant.told c.args.site.slot c.index_mut.result.now at in
    let kept = c.take-kept.ensures in (
      told-slot _ _ _ _ _ kept.told told ∙ ap (λ (o : Opening). Some o) kept.rests.opening,
      sym kept.rests.thread ∙ told-thread _ _ _ _ _ kept.told told,
    )

pub close-requires-clause-seat : goal.close-requires-clause-seat
close-requires-clause-seat g c = c.requires.can.seat_is _ (ap grant_in c.take-kept.ensures.held)

pub invariant_of-self : goal.invariant_of-self
invariant_of-self g c =
    let at = slice_get_read c.self.inside.buffers.items _ c.args.site.slot c.index_mut.result.now refl (omega (arith, c.self.invariant.count, c.requires.can.slot_is)) c.index_mut.ensures.value in
    row-closed _ _ _ _ c.self.inside.row c.close.new.row _ _ c.index_mut.result.now c.take-kept.new.half c.args.site.slot c.self.invariant at c.take-kept.ensures.places.1 c.take-kept.ensures.nothing.0 c.close.ensures.row

pub returns-clause-closes : goal.returns-clause-closes
returns-clause-closes g c =
    let at = slice_get_read c.self.inside.buffers.items _ c.args.site.slot c.index_mut.result.now refl (omega (arith, c.self.invariant.count, c.requires.can.slot_is)) c.index_mut.ensures.value in
    let told = c.self.invariant.told c.args.site.slot c.index_mut.result.now at in
    let kept = c.take-kept.ensures in
    let one : Kept = c.take-kept.result in
    let records : List Record = records_of c.close.result.0.chain in
    let hand : c.args.hand ≡ hand_of one.slot = hand-kept _ one _ kept.held c.requires.can.hand_is in
    record {
      taken = c.close.ensures.taken;
      numbered = λ grant is.
          subst (λ (x : Grant). All (IsNumbered g.P.Program.events x.config (g.P.Program.writes c.args.hand.thread) c.args.hand.from) records) (grant-kept _ one _ kept.held is) c.close.ensures.numbered;
      filled = c.close.ensures.filled;
      marks_are = subst (λ (n : ℕ). AreMarks c.args.hand records c.close.result.0.last n c.close.result.1) (sym c.close.ensures.marks.to_is) c.close.ensures.marks;
      counted = λ grant is.
          are-counted _ c.self.invariant.configs _ c.self.inside.row c.args.site.slot one.told.opening grant.config c.args.hand _ _ c.close.result.1 c.self.invariant.over c.requires.can.slot_is
          (ap (λ (r : TiedRowState). r.row.in_write) c.self.view_is ∙ c.requires.quiet)
          (told-slot _ _ _ _ _ kept.told told)
          (sym (told-config _ _ _ _ _ kept.told told) ∙ ap (λ (g : Grant). g.config) (grant-kept _ one _ kept.held is))
          (ap (λ (h : HandState). h.thread) hand ∙ sym kept.rests.thread ∙ told-thread _ _ _ _ _ kept.told told)
          (ap (λ (h : HandState). h.from) hand ∙ ap (λ (o : Opening). o.from) (sym kept.rests.opening))
          (c.close.ensures.last ∙ ap (λ (o : Opening). o.shown) (sym kept.rests.opening)) c.close.ensures.marks;
      few = c.close.ensures.few;
      seat_is = c.close.ensures.seat;
    }

pub returns-clause-thread : goal.returns-clause-thread
returns-clause-thread g c =
    let at = slice_get_read c.self.inside.buffers.items _ c.args.site.slot c.index_mut.result.now refl (omega (arith, c.self.invariant.count, c.requires.can.slot_is)) c.index_mut.ensures.value in
    let told = c.self.invariant.told c.args.site.slot c.index_mut.result.now at in
    let kept = c.take-kept.ensures in
    let one : Kept = c.take-kept.result in
    let hand : c.args.hand ≡ hand_of one.slot = hand-kept _ one _ kept.held c.requires.can.hand_is in
    ap (λ (h : HandState). h.thread) hand ∙ sym kept.rests.thread ∙ told-thread _ _ _ _ _ kept.told told ∙ ap (λ (r : TiedRowState). r.row.thread) c.self.view_is
