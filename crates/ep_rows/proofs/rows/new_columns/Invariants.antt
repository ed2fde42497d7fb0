use Rattle.std.proofs.Common.{◌≡◌, ℕ, None, vec_len}
use Rattle.std.specs.Prelude.{slice_index_or}
use Rattle.ep_rows.proofs.rows.new_columns.Given as goal

abbrev pub invariant-loop-slot : goal.invariant-loop-slot
invariant-loop-slot l =
    record {
      count : vec_len l.columns ≡ l._slot;
      none : (s : ℕ) → slice_index_or l.columns.items s None ≡ None;
    }
