-- Rows and slots as they are made, and where nothing is open.
use Rattle.std.proofs.Common.{◌≡◌, ℕ, zero, suc, ◌+◌, ◌<◌, ◌≤◌, Bool, true, false, List, [], ◌∷◌, ◌++◌, Option, None, Some, length, refl, ap, sym, ◌∙◌, subst, arith}
use Rattle.std.specs.Prelude.{slice_index_or, option_map, replicate, IsNone, IsTrue, nat_le, ◌↔◌}
use Rattle.std.specs.List.{All}
use Rattle.std.proofs.lemmas.Bool.{leb-true, leb-false}
use Rattle.std.proofs.lemmas.List.Elements.{All-nil, All-cons, All-head, All-tail}
use Rattle.std.proofs.lemmas.List.{get_or_past, length-replicate}
use Rattle.ep_defs.specs.declared.limits.TheConstants.{THREADS}
use Rattle.ep_defs.specs.declared.event.EventDef.{EventDef}
use Rattle.ep_row.specs.Row.{RowState, new_row, slot_of, opening_of}
use Rattle.ep_row.specs.declared.row.Opening.{Opening}
use Rattle.ep_stream.specs.Rows.{IsRow}
use Rattle.ep_slot.specs.Slot.{SlotState}
use Rattle.ep_rows.specs.declared.opened.Open.{Open}
use Rattle.ep_rows.specs.declared.column.Column.{Column}
use Rattle.ep_rows.specs.Cells.{cell_at}
use Rattle.ep_rows.specs.Told.{no_row, row_at, cell_in, open_at, slot_in, IsKnown, AreWritten}

-- ---- a row more

index_before : (rows : List RowState) (now : RowState) (place : ℕ) → place < length rows → slice_index_or (rows ++ now ∷ []) place no_row ≡ slice_index_or rows place no_row
index_before [] now place within = absurd (omega (arith, within))
index_before (row ∷ rows) now zero within = refl
index_before (row ∷ rows) now (suc place) within = index_before rows now place (omega (arith, within))

index_last : (rows : List RowState) (now : RowState) (place : ℕ) → place ≡ length rows → slice_index_or (rows ++ now ∷ []) place no_row ≡ now
index_last [] now zero is = refl
index_last [] now (suc place) is = absurd (omega (arith, is))
index_last (row ∷ rows) now zero is = absurd (omega (arith, is))
index_last (row ∷ rows) now (suc place) is = index_last rows now place (omega (arith, is))

-- What holds of each row holds of one more.
pub one_more : (P : ℕ → RowState → Type 0) (rows : List RowState) (now : RowState) (count : ℕ) → length rows ≡ count → P (count + 1) now
    → ((r : ℕ) → 0 < r → r ≤ count → P r (row_at rows r)) → (r : ℕ) → 0 < r → r ≤ count + 1 → P r (row_at (rows ++ now ∷ []) r)
one_more P rows now count is here all zero some most = absurd (omega (arith, some))
one_more P rows now count is here all (suc place) some most =
    elim (nat_le (suc place) count) as (λ v. nat_le (suc place) count ≡ v → P (suc place) (row_at (rows ++ now ∷ []) (suc place))) [
      | true ↦ λ below. let most : suc place ≤ count = leb-true (suc place) count below in
          subst (P (suc place)) (sym (index_before rows now place (omega (arith, most, is)))) (all (suc place) some most)
      | false ↦ λ above. let least : count < suc place = leb-false (suc place) count above in
          let last : count + 1 ≡ suc place = omega (arith, least, most) in
          subst (P (suc place)) (sym (index_last rows now place (omega (arith, last, is)))) (subst (λ (n : ℕ). P n now) last here)
    ]
    refl

-- ---- nothing is open

is_none : (cell : Option Open) → IsNone cell → cell ≡ None
is_none None h = refl
is_none (Some o) h = cc

none_cell : (cells : List (Option Open)) (place : ℕ) → All IsNone cells → slice_index_or cells place None ≡ None
none_cell [] place all = refl
none_cell (cell ∷ cells) zero all = is_none cell (All-head IsNone cell cells all)
none_cell (cell ∷ cells) (suc place) all = none_cell cells place (All-tail IsNone cell cells all)

none_cells : (cells : List (Option Open)) (r : ℕ) → All IsNone cells → cell_at cells r ≡ None
none_cells cells zero all = refl
none_cells cells (suc place) all = none_cell cells place all

no_slot : (cell : Option Open) → slot_in cell ≡ None → IsNone cell
no_slot None h = search
no_slot (Some o) h = absurd (some-none o.slot h)
  where
    some-none : (s : SlotState) → Some s ≡ None → ⊥
    some-none s e = cc

all_none : (cells : List (Option Open)) → ((place : ℕ) → slot_in (slice_index_or cells place None) ≡ None) → All IsNone cells
all_none [] none = All-nil IsNone
all_none (cell ∷ cells) none = All-cons IsNone cell cells (no_slot cell (none 0)) (all_none cells (λ place. none (suc place)))

-- A column has nothing open exactly where no row has.
pub nowhere : (columns : List (Option Column)) (slot : ℕ) (column : Column) (b : Bool) → slice_index_or columns slot None ≡ Some column → (IsTrue b ↔ All IsNone column.cells.items) → IsTrue b ↔ ((r : ℕ) → slot_in (open_at columns r slot) ≡ None)
nowhere columns slot column b is h = (
  λ yes r. ap (λ (c : Option Column). slot_in (cell_in c r)) is ∙ ap slot_in (none_cells column.cells.items r (h.0 yes)),
  λ none. h.1 (all_none column.cells.items (λ place. sym (ap (λ (c : Option Column). slot_in (cell_in c (suc place))) is) ∙ none (suc place))),
)

-- ---- rows that were just made

none_rep : (count s : ℕ) → slice_index_or {A = Option Opening} (replicate count None) s None ≡ None
none_rep zero s = refl
none_rep (suc count) zero = refl
none_rep (suc count) (suc s) = none_rep count s

-- Nothing is open on a new row.
slots_fresh : (rows : List RowState) (events : ℕ) → length rows ≡ THREADS → ((r : ℕ) → IsRow THREADS r → row_at rows r ≡ new_row r events) → (r s : ℕ) → slot_of (row_at rows r) s ≡ None
slots_fresh rows events count all zero s = none_rep 0 s
slots_fresh rows events count all (suc place) s =
    elim (nat_le (suc place) THREADS) as (λ v. nat_le (suc place) THREADS ≡ v → slot_of (row_at rows (suc place)) s ≡ None) [
      | true ↦ λ is. let most : suc place ≤ THREADS = leb-true (suc place) THREADS is in ap (λ (x : RowState). slot_of x s) (all (suc place) (omega arith, most)) ∙ none_rep 64 s
      | false ↦ λ is. let past : THREADS < suc place = leb-false (suc place) THREADS is in ap (λ (x : RowState). slot_of x s) (get_or_past rows place no_row (omega (arith, count, past))) ∙ none_rep 0 s
    ]
    refl

none-some : (o : Open) → None ≡ Some o → ⊥
none-some o e = cc

no_known : (row : RowState) (s : ℕ) (cell : Option Open) → slot_of row s ≡ None → cell ≡ None → IsKnown row s cell
no_known row s cell off none =
    record {
      on = off ∙ sym (ap (option_map (λ (o : Open). opening_of o.slot)) none);
      thread = λ o is. absurd (none-some o (sym none ∙ is));
    }

pub new_masks : (events : List EventDef) (rows : List RowState) (count : ℕ) → count ≡ length events → ((r : ℕ) → IsRow THREADS r → row_at rows r ≡ new_row r count) → (r : ℕ) → IsRow THREADS r → length (row_at rows r).masks ≡ length events
new_masks events rows count same all r is = ap (λ (x : RowState). length x.masks) (all r is) ∙ length-replicate count 0 ∙ same

pub new_known : (rows : List RowState) (columns : List (Option Column)) (count : ℕ) → length rows ≡ THREADS → ((r : ℕ) → IsRow THREADS r → row_at rows r ≡ new_row r count) → ((s : ℕ) → slice_index_or columns s None ≡ None)
    → (r s : ℕ) → IsKnown (row_at rows r) s (open_at columns r s)
new_known rows columns count long all none r s = no_known (row_at rows r) s (open_at columns r s) (slots_fresh rows count long all r s) (ap (λ (c : Option Column). cell_in c r) (none s))

pub new_written : (events : List EventDef) (columns : List (Option Column)) → ((s : ℕ) → slice_index_or columns s None ≡ None) → (r s : ℕ) → AreWritten events (open_at columns r s)
new_written events columns none r s o is = absurd (none-some o (sym (ap (λ (c : Option Column). cell_in c r) (none s)) ∙ is))
