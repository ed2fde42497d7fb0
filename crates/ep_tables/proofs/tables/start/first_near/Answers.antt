use Rattle.std.proofs.Common.{◌+◌, ℕ, length, refl, ap, sym, ◌∙◌, subst}
use Rattle.std.proofs.lemmas.List.{length_push}
use Rattle.ep_tables.specs.declared.judged.OnRow.{OnRow}
use Rattle.ep_tables.proofs.Near.{AreFirst, first_more}
use Rattle.ep_tables.proofs.tables.start.first_near.Goals as goal

pub loop-place-preserved : goal.loop-place-preserved
loop-place-preserved c =
    let near = c.loop-place.near.items in
    let on : OnRow = record { thread = c.first_thread-thread.result; row = c.first_thread-thread.result } in
    record {
      count = ap length c.in_ok-push.ensures.items ∙ length_push near on ∙ ap (λ (n : ℕ). n + 1) c.loop-place.invariant.count;
      first = subst AreFirst (sym c.in_ok-push.ensures.items) (first_more near on c.loop-place.invariant.first (c.first_thread-thread.ensures.chosen ∙ sym c.loop-place.invariant.count) refl c.first_thread-thread.ensures.there);
    }
