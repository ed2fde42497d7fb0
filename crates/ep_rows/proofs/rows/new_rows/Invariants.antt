use Rattle.std.proofs.Common.{◌≡◌, ◌<◌, ◌≤◌, ℕ, vec_len}
use Rattle.ep_row.specs.Row.{new_row}
use Rattle.ep_row.specs.AtRest.{RestsAnew}
use Rattle.ep_rows.specs.Told.{row_at}
use Rattle.ep_rows.proofs.rows.new_rows.Given as goal

abbrev pub invariant-loop-number : goal.invariant-loop-number
invariant-loop-number l =
    record {
      count : vec_len l.rows ≡ l.number;
      rows : (r : ℕ) → 0 < r → r ≤ l.number → row_at l.rows.items r ≡ new_row r l.fn.events;
      rest : (r : ℕ) → 0 < r → r ≤ l.number → RestsAnew (row_at l.rows.items r);
    }
