-- What is no row has no hand: the law that a row set owes.
use Rattle.std.specs.Prelude.{◌≡◌, ℕ, zero, suc, ◌≤◌, true, false, List, Option, None, Some, slice_index_or, option_map, length, nat_le, refl}
use Rattle.std.proofs.Common.{ap, subst}
use Rattle.std.proofs.Common.{suc-le-suc, zero-le}
use Rattle.std.proofs.Math.Nat.{le_trans, le_of_suc-le-suc}
use Rattle.std.proofs.lemmas.Bool.{leb-true, leb-false}
use Rattle.std.proofs.lemmas.List.{get_or_past}
use Rattle.ep_defs.specs.declared.limits.TheConstants.{THREADS}
use Rattle.ep_slot.specs.Hand.{hand_of}
use Rattle.ep_stream.specs.Rows.{IsRow}
use Rattle.ep_rows.specs.declared.opened.Open.{Open}
use Rattle.ep_rows.specs.declared.column.Column.{Column}
use Rattle.ep_rows.specs.declared.rows.Rows.{Rows}
use Rattle.ep_rows.specs.Cells.{cell_at}
use Rattle.ep_rows.specs.Told.{cell_in, slot_in}
use Rattle.ep_rows.specs.Rows.{expected_in}

no_cell : (cells : List (Option Open)) (row : ℕ) → length cells ≤ THREADS → (IsRow THREADS row → ⊥) → cell_at cells row ≡ None
no_cell cells zero few none = refl
no_cell cells (suc place) few none =
    elim (nat_le (suc place) THREADS) as (λ v. nat_le (suc place) THREADS ≡ v → cell_at cells (suc place) ≡ None) [
      | true ↦ λ is. absurd (none (suc-le-suc zero-le, leb-true (suc place) THREADS is))
      | false ↦ λ is. get_or_past cells place None (le_trans few (le_of_suc-le-suc (leb-false (suc place) THREADS is)))
    ]
    refl

no_one : (column : Option Column) (row : ℕ) → (IsRow THREADS row → ⊥) → cell_in column row ≡ None
no_one None row none = refl
no_one (Some column) row none = no_cell column.cells.items row (subst (λ (n : ℕ). n ≤ THREADS) column.cells.ok.0 column.few) none

-- No hand is expected on what is no row.
pub none_outside : (set : Rows) (row slot : ℕ) → (IsRow THREADS row → ⊥) → expected_in set row slot ≡ None
none_outside set row slot none = ap (λ (c : Option Open). option_map hand_of (slot_in c)) (no_one (slice_index_or set.columns.items slot None) row none)
