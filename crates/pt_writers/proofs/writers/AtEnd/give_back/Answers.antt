use Rattle.std.proofs.Common.{◌≡◌, ◌∙◌, ℕ, ◌+◌, List, [], ◌∷◌, ◌++◌, Some, length, refl, sym, ap, subst, arith, length-append}
use Rattle.std.specs.Prelude.{IsSome, map, slice_get}
use Rattle.std.specs.List.{range_with_len}
use Rattle.std.proofs.lemmas.Option.{slice_get_read}
use Rattle.std.proofs.lemmas.Iterator.Adapters.{YieldsList-from_vec}
use Rattle.std.proofs.lemmas.Iterator.Consumers.{YieldsList-turn}
use Rattle.ep_tie.specs.Tied.{Tied}
use Rattle.ep_guarded.specs.declared.agreed.Agreed.{Agreed}
use Rattle.ep_guarded.specs.declared.agreed.Stand.{Stand}
use Rattle.ep_guarded.specs.Tied.{stand_in}
use Rattle.ep_live.specs.Made.{IsStand}
use Rattle.ep_live.proofs.Pushing.{each-push}
use Rattle.pt_load.specs.declared.plan.Plan.{Plan}
use Rattle.pt_writers.specs.state.Writers.{WriterState}
use Rattle.pt_writers.proofs.Load.{row-of, rows-more}
use Rattle.pt_writers.proofs.writers.AtEnd.give_back.Goals as goal

same : (a b : Stand) → Some a ≡ Some b → a ≡ b
same a b e = cc

pub stand-stand-requires : goal.stand-stand-requires
stand-stand-requires g c =
    let gives = c.into_iter-writer-iterator.ensures.into_iter_gives in
    let turn = YieldsList-turn (YieldsList-from_vec {s = c.into_iter-writer-iterator.result} c.args.self.writers.items gives.0 (gives.1 ∙ c.args.self.writers.ok.0)) c.loop-writer.yielded c.loop-writer.writer-iterator c.loop-writer.yielded_by c.next.result c.next.new.self c.in-Some.writer c.in-Some.is c.next.ensures.steps in
    let at = slice_get_read c.args.self.writers.items _ (length c.loop-writer.yielded) c.in-Some.writer refl turn.0 turn.1 in
    let is = c.args.self.ended (length c.loop-writer.yielded) c.in-Some.writer at in
    let inv = c.loop-writer.invariant in
    let threads = ap (λ (p : Plan). p.threads) c.args.around.now.plan_is in
    let seen = ap (λ (w : WriterState). w.half) c.writer.view_is in
    record {
      row = omega (arith, turn.0, inv.number, c.args.self.count, c.args.self.writers.ok.0, c.args.around.now.is_run.rows_are, threads);
      place = ap (λ (h : Tied Agreed). h.place) seen ∙ is.place ∙ sym inv.number;
      here = subst IsSome (sym (ap (λ (h : Tied Agreed). stand_in h.value) seen ∙ is.stands)) refl;
    }

pub loop-writer-preserved : goal.loop-writer-preserved
loop-writer-preserved g c =
    let gives = c.into_iter-writer-iterator.ensures.into_iter_gives in
    let turn = YieldsList-turn (YieldsList-from_vec {s = c.into_iter-writer-iterator.result} c.args.self.writers.items gives.0 (gives.1 ∙ c.args.self.writers.ok.0)) c.loop-writer.yielded c.loop-writer.writer-iterator c.loop-writer.yielded_by c.next.result c.next.new.self c.in-Some.writer c.in-Some.is c.next.ensures.steps in
    let at = slice_get_read c.args.self.writers.items _ (length c.loop-writer.yielded) c.in-Some.writer refl turn.0 turn.1 in
    let is = c.args.self.ended (length c.loop-writer.yielded) c.in-Some.writer at in
    let inv = c.loop-writer.invariant in
    let halves : List (Tied Agreed) = c.loop-writer.halves.items in
    let long : length halves ≡ length c.loop-writer.yielded = sym c.loop-writer.halves.ok.0 ∙ inv.count ∙ inv.number in
    let seen = ap (λ (w : WriterState). w.half) c.writer.view_is in
    let half : IsStand g.P.SampleRun.plan.writes (length halves) c.writer.inside.half =
    subst (IsStand g.P.SampleRun.plan.writes (length halves)) (sym seen)
    (record { place = is.place ∙ sym long; stands = is.stands ∙ ap (λ (n : ℕ). Some (record { thread = n + 1; index = g.P.SampleRun.plan.writes })) (sym long) })
    in
    let stand : c.stand-stand.result ≡ record { thread = c.loop-writer.number + 1; index = g.P.SampleRun.plan.writes } =
    same _ _ (sym c.stand-stand.ensures.stand ∙ ap (λ (h : Tied Agreed). stand_in h.value) seen ∙ is.stands ∙ ap (λ (n : ℕ). Some (record { thread = n + 1; index = g.P.SampleRun.plan.writes })) (sym inv.number))
    in
    record {
      number = omega (arith, inv.number, length-append c.loop-writer.yielded (c.in-Some.writer ∷ []));
      rows = c.push_reserved.ensures.items
          ∙ ap (λ (rows : List (ℕ × ℕ)). rows ++ (c.stand-stand.result.thread, c.stand-stand.result.index) ∷ []) inv.rows
          ∙ ap (λ (s : Stand). map (λ (t : ℕ). row-of g.P.SampleRun.plan.writes t) (range_with_len 1 c.loop-writer.number) ++ (s.thread, s.index) ∷ []) stand
          ∙ sym (rows-more g.P.SampleRun.plan.writes c.loop-writer.number);
      count = omega (arith, c.push_reserved-in-loop-writer.ensures.len, inv.count);
      row_count = omega (arith, c.push_reserved.ensures.len, inv.row_count);
      room = omega (arith, c.push_reserved-in-loop-writer.ensures.capacity, inv.room);
      row_room = omega (arith, c.push_reserved.ensures.capacity, inv.row_room);
      each = subst
          (λ (hs : List (Tied Agreed)). (k : ℕ) (h : Tied Agreed) → slice_get hs k ≡ Some h → IsStand g.P.SampleRun.plan.writes k h)
          (sym c.push_reserved-in-loop-writer.ensures.items)
          (each-push (IsStand g.P.SampleRun.plan.writes) halves c.stand-stand.new.half inv.each (subst (IsStand g.P.SampleRun.plan.writes (length halves)) (sym c.stand-stand.ensures.same) half));
    }
