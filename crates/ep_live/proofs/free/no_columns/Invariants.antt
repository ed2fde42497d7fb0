use Rattle.std.proofs.Common.{◌≡◌, ℕ, Some}
use Rattle.std.specs.Prelude.{slice_get, vec_len}
use Rattle.ep_live.specs.Free.{ColumnState}
use Rattle.ep_live.proofs.free.no_columns.Given as goal

abbrev pub invariant-loop-slot : goal.invariant-loop-slot
invariant-loop-slot g l =
    record {
      count : vec_len l.columns ≡ l.slot;
      none : (k : ℕ) (column : ColumnState) → slice_get l.columns.items k ≡ Some column → column ≡ record { slot = k; count = 0 };
    }
