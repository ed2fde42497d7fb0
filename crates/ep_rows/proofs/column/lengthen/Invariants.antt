use Rattle.std.proofs.Common.{◌≡◌, ◌≤◌, ℕ, vec_len}
use Rattle.ep_defs.specs.declared.limits.TheConstants.{THREADS}
use Rattle.ep_rows.specs.Cells.{cell_at, pending_chunks}
use Rattle.ep_rows.proofs.column.lengthen.Given as goal

abbrev pub invariant-loop-place : goal.invariant-loop-place
invariant-loop-place l =
    record {
      long : vec_len l.cells ≡ l.place;
      few : vec_len l.fn.cells ≤ THREADS → l.place ≤ THREADS;
      cells : (r : ℕ) → cell_at l.cells.items r ≡ cell_at l.fn.cells.items r;
      chunks : pending_chunks l.cells.items ≡ pending_chunks l.fn.cells.items;
    }
