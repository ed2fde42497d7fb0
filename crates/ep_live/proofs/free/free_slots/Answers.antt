use Rattle.std.proofs.Common.{◌≡◌, ◌∙◌, ℕ, List, [], ◌∷◌, length, refl, sym, subst, arith}
use Rattle.std.proofs.lemmas.List.{length-append}
use Rattle.std.proofs.lemmas.Option.{slice_get_read}
use Rattle.std.proofs.lemmas.Iterator.Adapters.{YieldsList-from_vec}
use Rattle.std.proofs.lemmas.Iterator.Consumers.{YieldsList-turn}
use Rattle.ep_live.specs.Made.{AreSlots}
use Rattle.ep_live.proofs.Columns.{all-dealt}
use Rattle.ep_live.proofs.Pushing.{each-push}
use Rattle.ep_live.proofs.free.free_slots.Goals as goal

pub whole-requires : goal.whole-requires
whole-requires g c =
    let gives = c.into_iter-column-iterator.ensures.into_iter_gives in
    let turn = YieldsList-turn (YieldsList-from_vec {s = c.into_iter-column-iterator.result} c.deal.new.columns.items gives.0 (gives.1 ∙ c.deal.new.columns.ok.0)) c.loop-column.yielded c.loop-column.column-iterator c.loop-column.yielded_by c.next.result c.next.new.self c.in-Some.column c.in-Some.is c.next.ensures.steps in
    let at = slice_get_read c.deal.new.columns.items _ (length c.loop-column.yielded) c.in-Some.column refl turn.0 turn.1 in
    let all = all-dealt g.P.Program.rows _ _ c.deal.new.columns.items c.in-Some.column c.requires.count c.in_ok-deal.ensures at in
    record { slot = omega (arith, all.0, all.1); count = all.2 }

pub loop-column-preserved : goal.loop-column-preserved
loop-column-preserved g c =
    let gives = c.into_iter-column-iterator.ensures.into_iter_gives in
    let turn = YieldsList-turn (YieldsList-from_vec {s = c.into_iter-column-iterator.result} c.deal.new.columns.items gives.0 (gives.1 ∙ c.deal.new.columns.ok.0)) c.loop-column.yielded c.loop-column.column-iterator c.loop-column.yielded_by c.next.result c.next.new.self c.in-Some.column c.in-Some.is c.next.ensures.steps in
    let at = slice_get_read c.deal.new.columns.items _ (length c.loop-column.yielded) c.in-Some.column refl turn.0 turn.1 in
    let all = all-dealt g.P.Program.rows _ _ c.deal.new.columns.items c.in-Some.column c.requires.count c.in_ok-deal.ensures at in
    let slots : List ℕ = c.loop-column.slots.items in
    let inv = c.loop-column.invariant in
    let len : length slots ≡ length c.loop-column.yielded = sym c.loop-column.slots.ok.0 ∙ inv.count in
    record {
      count = omega (arith, c.in_ok-push.ensures.len, inv.count, length-append c.loop-column.yielded (c.in-Some.column ∷ []));
      slots = subst AreSlots (sym c.in_ok-push.ensures.items) (each-push (λ k slot. slot ≡ k) slots c.whole.result inv.slots (c.whole.ensures ∙ all.0 ∙ sym len));
    }
