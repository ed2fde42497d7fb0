use Rattle.std.proofs.Common.{◌∙◌, List, Option, ap, arith}
use Rattle.ep_rows.specs.declared.opened.Open.{Open}
use Rattle.ep_rows.specs.Cells.{cell_at, pending_chunks}
use Rattle.ep_rows.proofs.Cells.{cell_at_longer, chunks_longer}
use Rattle.ep_rows.proofs.column.lengthen.Goals as goal

pub loop-place-preserved : goal.loop-place-preserved
loop-place-preserved c =
    record {
      long = omega (arith, c.in_ok-push.ensures.len, c.loop-place.invariant.long);
      few = λ few. omega (arith, c.requires, c.loop-place.auto.place-end);
      cells = λ r. ap (λ (xs : List (Option Open)). cell_at xs r) c.in_ok-push.ensures.items ∙ cell_at_longer c.loop-place.cells.items r ∙ c.loop-place.invariant.cells r;
      chunks = ap pending_chunks c.in_ok-push.ensures.items ∙ chunks_longer c.loop-place.cells.items ∙ c.loop-place.invariant.chunks;
    }
