-- What a show leaves of the sessions that are open: their configurations, and the chunks that are out.
use Rattle.std.proofs.Common.{◌≡◌, ℕ, ◌+◌, ◌-◌, ◌<◌, true, false, List, Option, None, length, refl, ap, sym, ◌∙◌, arith}
use Rattle.std.specs.Prelude.{slice_index_or, slice_set, ◌==◌, if◌then◌else◌}
use Rattle.std.proofs.lemmas.Bool.{eqb-true}
use Rattle.ep_defs.specs.declared.session.Write.{Write}
use Rattle.ep_slot.specs.declared.shown.Shown.{Shown}
use Rattle.ep_row.specs.Row.{RowState}
use Rattle.ep_stream.specs.Rows.{IsSetAt}
use Rattle.ep_rows.specs.declared.column.Column.{Column}
use Rattle.ep_rows.specs.Told.{row_at, cell_in, open_at, pool_in, pool_at, config_in, pending_in}
use Rattle.ep_rows.specs.Shows.{ShownIn}
use Rattle.ep_rows.proofs.OneRow.{column_set, kept_at}

-- How many chunks of a column are out.
abbrev pub out_of : Option Column → ℕ
out_of column = (pool_in column).total - (pool_in column).free - pending_in column

-- The chunks that are out, where one slot has another column.
out_set : (columns : List (Option Column)) (slot : ℕ) (now : Option Column) (s : ℕ) → slot < length columns
    → out_of (slice_index_or (slice_set columns slot now) s None) ≡ (if s == slot then out_of now else out_of (slice_index_or columns s None))
out_set columns slot now s within =
    elim (s == slot) as (λ v. slice_index_or (slice_set columns slot now) s None ≡ (if v then now else slice_index_or columns s None) → out_of (slice_index_or (slice_set columns slot now) s None) ≡ (if v then out_of now else out_of (slice_index_or columns s None))) [
      | true ↦ λ is. ap out_of is
      | false ↦ λ is. ap out_of is
    ]
    (column_set columns slot now s within)

-- As many are out where the column's free and pending chunks are as many.
pub out_kept : (columns : List (Option Column)) (slot : ℕ) (now : Option Column) → slot < length columns
    → (pool_in now).total ≡ (pool_at columns slot).total → pending_in now + (pool_in now).free ≡ pending_in (slice_index_or columns slot None) + (pool_at columns slot).free
    → (s : ℕ) → out_of (slice_index_or (slice_set columns slot now) s None) ≡ out_of (slice_index_or columns s None)
out_kept columns slot now within total chunks s =
    out_set columns slot now s within
    ∙ elim (s == slot) as (λ v. (s == slot) ≡ v → (if v then out_of now else out_of (slice_index_or columns s None)) ≡ out_of (slice_index_or columns s None)) [
      | true ↦ λ same. (omega (arith, total, chunks)) ∙ ap (λ (n : ℕ). out_of (slice_index_or columns n None)) (sym (eqb-true s slot same))
      | false ↦ λ _. refl
    ]
    refl

-- Where a write was shown the configurations stay.
pub configs_shown : (rows : List RowState) (columns : List (Option Column)) (row slot : ℕ) (write : Write) (shown : Shown) (now : RowState) (new : Option Column)
    → IsSetAt row slot (cell_in new row) (open_at columns) (open_at (slice_set columns slot new))
    → ShownIn slot write shown (row_at rows row) now (pool_at columns slot) (pool_in new) (open_at columns row slot) (cell_in new row)
    → (r s : ℕ) → config_in (open_at (slice_set columns slot new) r s) ≡ config_in (open_at columns r s)
configs_shown rows columns row slot write shown now new set h =
    kept_at (λ r s cell. config_in cell ≡ config_in (open_at columns r s)) row slot (cell_in new row) (open_at columns) (open_at (slice_set columns slot new)) set
    (ap config_in h.now ∙ sym (ap config_in h.was))
    (λ r s. refl)
