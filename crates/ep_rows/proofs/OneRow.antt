-- What a row set has, where one row or one slot of it changes.
use Rattle.std.proofs.Common.{◌≡◌, ◌≢◌, ℕ, zero, suc, ◌-◌, ◌<◌, ◌≤◌, Bool, true, false, List, [], ◌∷◌, Option, None, Some, length, refl, ap, sym, ◌∙◌, subst, arith}
use Rattle.std.specs.Prelude.{slice_index_or, slice_set, option_map, unwrap_or, IsNone, ◌==◌, ◌&&◌, if◌then◌else◌}
use Rattle.std.specs.List.{All}
use Rattle.ep_defs.specs.declared.limits.TheConstants.{THREADS}
use Rattle.ep_defs.specs.declared.event.EventDef.{EventDef}
use Rattle.std.proofs.lemmas.Bool.{eqb-true, eqb-false, ne_eqb}
use Rattle.std.proofs.lemmas.List.{get_or-set_same, get_or-set_other, get_or_default}
use Rattle.std.proofs.lemmas.List.Elements.{All-head, All-tail}
use Rattle.ep_row.specs.Row.{RowState, HasOpen, opening_of}
use Rattle.ep_row.specs.declared.row.Opening.{Opening}
use Rattle.ep_stream.specs.Rows.{IsRow, IsSetAt}
use Rattle.ep_rows.specs.declared.opened.Open.{Open}
use Rattle.ep_rows.specs.declared.column.Column.{Column}
use Rattle.ep_rows.specs.Told.{no_row, row_at, told, cell_in, open_at, pool_in, pool_at, IsKnown, IsWritten, AreWritten}
use Rattle.ep_rows.specs.Writes.{ChangesAlone}

-- A row stands at the place before its number.
pub row_at_is : (rows : List RowState) (row : ℕ) → 0 < row → row_at rows row ≡ slice_index_or rows (row - 1) no_row
row_at_is rows zero some = absurd (omega (arith, some))
row_at_is rows (suc place) some =
    let e : place ≡ suc place - 1 = omega arith in
    ap (λ (p : ℕ). slice_index_or rows p no_row) e

-- One row changes.
pub row_at_set : (rows : List RowState) (row : ℕ) (now : RowState) (r : ℕ) → 0 < row → row ≤ length rows → row_at (slice_set rows (row - 1) now) r ≡ (if r == row then now else row_at rows r)
row_at_set rows row now r some within =
    elim (r == row) as (λ v. (r == row) ≡ v → row_at (slice_set rows (row - 1) now) r ≡ (if v then now else row_at rows r)) [
      | true ↦ λ is. ap (row_at (slice_set rows (row - 1) now)) (eqb-true r row is)
          ∙ row_at_is (slice_set rows (row - 1) now) row some
          ∙ get_or-set_same rows (row - 1) now no_row (omega (arith, some, within))
      | false ↦ λ is. other r (eqb-false r row is)
    ]
    refl
  where
    other : (r : ℕ) → r ≢ row → row_at (slice_set rows (row - 1) now) r ≡ row_at rows r
    other zero not = refl
    other (suc place) not = get_or-set_other rows (row - 1) place now no_row (λ (e : place ≡ row - 1). not (omega (arith, e, some)))

-- One slot changes.
pub column_set : (columns : List (Option Column)) (slot : ℕ) (now : Option Column) (s : ℕ) → slot < length columns → slice_index_or (slice_set columns slot now) s None ≡ (if s == slot then now else slice_index_or columns s None)
column_set columns slot now s within =
    elim (s == slot) as (λ v. (s == slot) ≡ v → slice_index_or (slice_set columns slot now) s None ≡ (if v then now else slice_index_or columns s None)) [
      | true ↦ λ is. ap (λ (n : ℕ). slice_index_or (slice_set columns slot now) n None) (eqb-true s slot is) ∙ get_or-set_same columns slot now None within
      | false ↦ λ is. get_or-set_other columns slot s now None (eqb-false s slot is)
    ]
    refl

-- What is open changes with a slot's column.
pub open_set : (columns : List (Option Column)) (slot : ℕ) (now : Option Column) (r s : ℕ) → slot < length columns → open_at (slice_set columns slot now) r s ≡ (if s == slot then cell_in now r else open_at columns r s)
open_set columns slot now r s within =
    elim (s == slot) as (λ v. slice_index_or (slice_set columns slot now) s None ≡ (if v then now else slice_index_or columns s None) → open_at (slice_set columns slot now) r s ≡ (if v then cell_in now r else open_at columns r s)) [
      | true ↦ λ is. ap (λ (c : Option Column). cell_in c r) is
      | false ↦ λ is. ap (λ (c : Option Column). cell_in c r) is
    ]
    (column_set columns slot now s within)

-- The chunks change with a slot's column.
pub pool_set : (columns : List (Option Column)) (slot : ℕ) (now : Option Column) (s : ℕ) → slot < length columns → pool_at (slice_set columns slot now) s ≡ (if s == slot then pool_in now else pool_at columns s)
pool_set columns slot now s within =
    elim (s == slot) as (λ v. slice_index_or (slice_set columns slot now) s None ≡ (if v then now else slice_index_or columns s None) → pool_at (slice_set columns slot now) s ≡ (if v then pool_in now else pool_at columns s)) [
      | true ↦ λ is. ap pool_in is
      | false ↦ λ is. ap pool_in is
    ]
    (column_set columns slot now s within)

-- What is open changes at one row and slot, where one cell of the slot's column changes.
pub cell_set : (columns : List (Option Column)) (slot row : ℕ) (cell : Option Open) (now : Option Column) → slot < length columns
    → ((r : ℕ) → cell_in now r ≡ (if r == row then cell else cell_in (slice_index_or columns slot None) r))
    → IsSetAt row slot cell (open_at columns) (open_at (slice_set columns slot now))
cell_set columns slot row cell now within is r s =
    open_set columns slot now r s within
    ∙ elim (s == slot) as (λ v. (s == slot) ≡ v → (if v then cell_in now r else open_at columns r s) ≡ (if (r == row) && v then cell else open_at columns r s)) [
      | true ↦ λ same. is r
          ∙ elim (r == row) as (λ v. (if v then cell else cell_in (slice_index_or columns slot None) r) ≡ (if v && true then cell else open_at columns r s)) [
            | true ↦ refl
            | false ↦ sym (ap (λ (n : ℕ). open_at columns r n) (eqb-true s slot same))
          ]
      | false ↦ λ _. elim (r == row) as (λ v. open_at columns r s ≡ (if v && false then cell else open_at columns r s)) [ true ↦ refl | false ↦ refl ]
    ]
    refl

-- Nothing that is open changes, where no cell of the slot's column does.
pub cells_same : (columns : List (Option Column)) (slot : ℕ) (now : Option Column) → slot < length columns
    → ((r : ℕ) → cell_in now r ≡ cell_in (slice_index_or columns slot None) r) → (r s : ℕ) → open_at (slice_set columns slot now) r s ≡ open_at columns r s
cells_same columns slot now within is r s =
    open_set columns slot now r s within
    ∙ elim (s == slot) as (λ v. (s == slot) ≡ v → (if v then cell_in now r else open_at columns r s) ≡ open_at columns r s) [
      | true ↦ λ same. is r ∙ sym (ap (λ (n : ℕ). open_at columns r n) (eqb-true s slot same))
      | false ↦ λ _. refl
    ]
    refl

-- What holds of each row and slot still holds where one changes.
pub kept_at : (P : ℕ → ℕ → Option Open → Type 0) (row slot : ℕ) (cell : Option Open) (old new : ℕ → ℕ → Option Open) → IsSetAt row slot cell old new
    → P row slot cell → ((r s : ℕ) → P r s (old r s)) → (r s : ℕ) → P r s (new r s)
kept_at P row slot cell old new set here others r s =
    elim (r == row) as (λ v. (r == row) ≡ v → new r s ≡ (if v && (s == slot) then cell else old r s) → P r s (new r s)) [
      | true ↦ λ same is. elim (s == slot) as (λ v. (s == slot) ≡ v → new r s ≡ (if v then cell else old r s) → P r s (new r s)) [
        | true ↦ λ too is. subst (P r s) (sym is) (subst (λ (n : ℕ). P n s cell) (sym (eqb-true r row same)) (subst (λ (n : ℕ). P row n cell) (sym (eqb-true s slot too)) here))
        | false ↦ λ _ is. subst (P r s) (sym is) (others r s)
      ] refl is
      | false ↦ λ _ is. subst (P r s) (sym is) (others r s)
    ]
    refl (set r s)

-- ---- one row changes, and nothing is opened or closed on it

-- The row that is there now.
pub row_now : (rows : List RowState) (row : ℕ) (now : RowState) → 0 < row → row ≤ length rows → row_at (slice_set rows (row - 1) now) row ≡ now
row_now rows row now some within = row_at_is (slice_set rows (row - 1) now) row some ∙ get_or-set_same rows (row - 1) now no_row (omega (arith, some, within))

pub row_other : (rows : List RowState) (row : ℕ) (now : RowState) (r : ℕ) → 0 < row → row ≤ length rows → (r ≡ row → ⊥) → row_at (slice_set rows (row - 1) now) r ≡ row_at rows r
row_other rows row now r some within not =
    let P : Bool → Type 0 = λ v. row_at (slice_set rows (row - 1) now) r ≡ (if v then now else row_at rows r) in
    subst P (ne_eqb r row not) (row_at_set rows row now r some within)

-- What holds of each row still holds.
pub rows_kept : (P : ℕ → RowState → Type 0) (rows : List RowState) (row : ℕ) (now : RowState) → 0 < row → row ≤ length rows → P row now → (r : ℕ) → P r (row_at rows r) → P r (row_at (slice_set rows (row - 1) now) r)
rows_kept P rows row now some within here r there =
    elim (r == row) as (λ v. (r == row) ≡ v → row_at (slice_set rows (row - 1) now) r ≡ (if v then now else row_at rows r) → P r (row_at (slice_set rows (row - 1) now) r)) [
      | true ↦ λ same is. subst (P r) (sym is) (subst (λ (n : ℕ). P n now) (sym (eqb-true r row same)) here)
      | false ↦ λ _ is. subst (P r) (sym is) there
    ]
    refl (row_at_set rows row now r some within)

-- A row with the same slots and thread knows the same.
pub known_same : (old new : RowState) (slot : ℕ) (cell : Option Open) → new.slots ≡ old.slots → new.thread ≡ old.thread → IsKnown old slot cell → IsKnown new slot cell
known_same old new slot cell slots thread h =
    record {
      on = ap (λ (xs : List (Option Opening)). slice_index_or xs slot None) slots ∙ h.on;
      thread = λ o is. h.thread o is ∙ sym thread;
    }

none_at : (xs : List (Option Opening)) (slot : ℕ) → All IsNone xs → slice_index_or xs slot None ≡ None
none_at [] slot all = refl
none_at (x ∷ xs) zero all = none_is x (All-head IsNone x xs all)
  where
    none_is : (x : Option Opening) → IsNone x → x ≡ None
    none_is None h = refl
    none_is (Some y) h = cc
none_at (x ∷ xs) (suc slot) all = none_at xs slot (All-tail IsNone x xs all)

-- A row on which nothing is open knows the same of another thread.
pub known_anew : (old new : RowState) (slot : ℕ) (cell : Option Open) → new.slots ≡ old.slots → All IsNone old.slots → IsKnown old slot cell → IsKnown new slot cell
known_anew old new slot cell slots off h =
    record {
      on = ap (λ (xs : List (Option Opening)). slice_index_or xs slot None) slots ∙ h.on;
      thread = λ o is. absurd (some-none (opening_of o.slot) (sym (none_at old.slots slot off) ∙ h.on ∙ ap (option_map (λ (o : Open). opening_of o.slot)) is));
    }
  where
    some-none : (x : Opening) → None ≡ Some x → ⊥
    some-none x e = cc

-- The change is told as one of that row alone.
pub changes_alone : (Changes : RowState → RowState → Type 0) (rows : List RowState) (columns : List (Option Column)) (row : ℕ) (now : RowState) → 0 < row → row ≤ length rows → Changes (row_at rows row) now
    → ChangesAlone row Changes (told rows columns) (told (slice_set rows (row - 1) now) columns)
changes_alone Changes rows columns row now some within changes =
    record {
      rows = record {
        here = subst (Changes (row_at rows row)) (sym (row_now rows row now some within)) changes;
        others = λ r not. row_other rows row now r some within not;
      };
      slots = λ r s. refl;
      pools = λ s. refl;
    }

-- The row that was lent is the one with its number.
pub lent_row : (rows : List RowState) (row : ℕ) (old : RowState) → 0 < row → row ≤ length rows → old ≡ slice_index_or rows (row - 1) old → old ≡ row_at rows row
lent_row rows row old some within at = at ∙ get_or_default rows (row - 1) old no_row (omega (arith, some, within)) ∙ sym (row_at_is rows row some)

-- The column that was lent is that of its slot.
pub lent_column : (columns : List (Option Column)) (slot : ℕ) (old : Option Column) → slot < length columns → old ≡ slice_index_or columns slot old → old ≡ slice_index_or columns slot None
lent_column columns slot old within at = at ∙ get_or_default columns slot old None within

-- The masks of a row that changes are as long as before.
pub masks_after : (events : List EventDef) (rows : List RowState) (row : ℕ) (old now : RowState) → 0 < row → row ≤ length rows → row ≤ THREADS → old ≡ slice_index_or rows (row - 1) old → length now.masks ≡ length old.masks
    → ((r : ℕ) → IsRow THREADS r → length (row_at rows r).masks ≡ length events) → (r : ℕ) → IsRow THREADS r → length (row_at (slice_set rows (row - 1) now) r).masks ≡ length events
masks_after events rows row old now some within most at same all r is =
    rows_kept (λ r x. IsRow THREADS r → length x.masks ≡ length events) rows row now some within
    (λ is. same ∙ ap (λ (x : RowState). length x.masks) (lent_row rows row old some within at) ∙ all row is)
    r (all r) is

-- Rows know what is open on them, where one changes and keeps its slots and its thread.
pub known_after : (rows : List RowState) (columns : List (Option Column)) (row : ℕ) (old now : RowState) → 0 < row → row ≤ length rows → old ≡ slice_index_or rows (row - 1) old → now.slots ≡ old.slots → now.thread ≡ old.thread
    → ((r s : ℕ) → IsKnown (row_at rows r) s (open_at columns r s)) → (r s : ℕ) → IsKnown (row_at (slice_set rows (row - 1) now) r) s (open_at columns r s)
known_after rows columns row old now some within at slots thread all r s =
    let is = lent_row rows row old some within at in
    rows_kept (λ r x. IsKnown x s (open_at columns r s)) rows row now some within
    (known_same (row_at rows row) now s (open_at columns row s) (slots ∙ ap (λ (x : RowState). x.slots) is) (thread ∙ ap (λ (x : RowState). x.thread) is) (all row s))
    r (all r s)

pub known_kept : (rows : List RowState) (columns : List (Option Column)) (row : ℕ) (now : RowState) → 0 < row → row ≤ length rows → now.slots ≡ (row_at rows row).slots → now.thread ≡ (row_at rows row).thread
    → ((r s : ℕ) → IsKnown (row_at rows r) s (open_at columns r s)) → (r s : ℕ) → IsKnown (row_at (slice_set rows (row - 1) now) r) s (open_at columns r s)
known_kept rows columns row now some within slots thread all r s =
    rows_kept (λ r x. IsKnown x s (open_at columns r s)) rows row now some within (known_same (row_at rows row) now s (open_at columns row s) slots thread (all row s)) r (all r s)

-- The same where nothing is open on it.
pub entered_after : (rows : List RowState) (columns : List (Option Column)) (row : ℕ) (old now : RowState) → 0 < row → row ≤ length rows → old ≡ slice_index_or rows (row - 1) old → now.slots ≡ old.slots → All IsNone (row_at rows row).slots
    → ((r s : ℕ) → IsKnown (row_at rows r) s (open_at columns r s)) → (r s : ℕ) → IsKnown (row_at (slice_set rows (row - 1) now) r) s (open_at columns r s)
entered_after rows columns row old now some within at slots off all r s =
    let is = lent_row rows row old some within at in
    rows_kept (λ r x. IsKnown x s (open_at columns r s)) rows row now some within
    (known_anew (row_at rows row) now s (open_at columns row s) (slots ∙ ap (λ (x : RowState). x.slots) is) off (all row s))
    r (all r s)

-- The change is told as one of that row alone.
pub alone_after : (Changes : RowState → RowState → Type 0) (rows : List RowState) (columns : List (Option Column)) (row : ℕ) (old now : RowState) → 0 < row → row ≤ length rows → old ≡ slice_index_or rows (row - 1) old → Changes old now
    → ChangesAlone row Changes (told rows columns) (told (slice_set rows (row - 1) now) columns)
alone_after Changes rows columns row old now some within at changes =
    changes_alone Changes rows columns row now some within (subst (λ (x : RowState). Changes x now) (lent_row rows row old some within at) changes)

-- ---- one row and what is open on it in one slot change

slot_gone : (xs : List (Option Opening)) (slot : ℕ) → slice_index_or (slice_set xs slot None) slot None ≡ None
slot_gone [] slot = refl
slot_gone (x ∷ xs) zero = refl
slot_gone (x ∷ xs) (suc slot) = slot_gone xs slot

-- A row whose slot was freed knows nothing there.
pub known_none : (old now : RowState) (slot : ℕ) → now.slots ≡ slice_set old.slots slot None → IsKnown now slot None
known_none old now slot slots =
    record {
      on = ap (λ (xs : List (Option Opening)). slice_index_or xs slot None) slots ∙ slot_gone old.slots slot;
      thread = λ o is. absurd (none-some o is);
    }
  where
    none-some : (o : Open) → None ≡ Some o → ⊥
    none-some o e = cc

some_same : (o p : Open) (cell : Option Open) → cell ≡ Some o → cell ≡ Some p → o ≡ p
some_same o p cell is too = ap (λ (x : Option Open). unwrap_or x o) (sym is ∙ too)

-- A row that has a slot open knows it.
pub known_some : (now : RowState) (slot : ℕ) (o : Open) (cell : Option Open) → cell ≡ Some o → HasOpen now slot o.slot → IsKnown now slot cell
known_some now slot o cell is has =
    record {
      on = has.0 ∙ sym (ap (option_map (λ (o : Open). opening_of o.slot)) is);
      thread = λ p too. subst (λ (x : Open). x.slot.thread ≡ now.thread) (some_same o p cell is too) has.1;
    }

-- Rows know what is open on them, where one row and one of its slots change.
pub known_at : (rows : List RowState) (columns new : List (Option Column)) (row slot : ℕ) (now : RowState) (opening : Option Opening) (cell : Option Open) → 0 < row → row ≤ length rows
    → now.slots ≡ slice_set (row_at rows row).slots slot opening → now.thread ≡ (row_at rows row).thread
    → IsSetAt row slot cell (open_at columns) (open_at new) → IsKnown now slot cell
    → ((r s : ℕ) → IsKnown (row_at rows r) s (open_at columns r s)) → (r s : ℕ) → IsKnown (row_at (slice_set rows (row - 1) now) r) s (open_at new r s)
known_at rows columns new row slot now opening cell some within slots thread set here all r s =
    elim (r == row) as (λ v. (r == row) ≡ v → new_is v → IsKnown (row_at (slice_set rows (row - 1) now) r) s (open_at new r s)) [
      | true ↦ λ same is. elim (s == slot) as (λ v. (s == slot) ≡ v → open_at new r s ≡ (if v then cell else open_at columns r s) → IsKnown (row_at (slice_set rows (row - 1) now) r) s (open_at new r s)) [
        | true ↦ λ too is. subst (IsKnown (row_at (slice_set rows (row - 1) now) r) s) (sym is)
            (subst (λ (n : ℕ). IsKnown (row_at (slice_set rows (row - 1) now) r) n cell) (sym (eqb-true s slot too))
            (subst (λ (x : RowState). IsKnown x slot cell) (sym (ap (row_at (slice_set rows (row - 1) now)) (eqb-true r row same) ∙ row_now rows row now some within)) here))
        | false ↦ λ other is. subst (IsKnown (row_at (slice_set rows (row - 1) now) r) s) (sym is)
            (subst (λ (x : RowState). IsKnown x s (open_at columns r s)) (sym (ap (row_at (slice_set rows (row - 1) now)) (eqb-true r row same) ∙ row_now rows row now some within))
            (elsewhere (eqb-false s slot other) (subst (λ (n : ℕ). IsKnown (row_at rows n) s (open_at columns r s)) (eqb-true r row same) (all r s))))
      ] refl is
      | false ↦ λ other is. subst (IsKnown (row_at (slice_set rows (row - 1) now) r) s) (sym is)
          (subst (λ (x : RowState). IsKnown x s (open_at columns r s)) (sym (row_other rows row now r some within (eqb-false r row other))) (all r s))
    ]
    refl (set r s)
  where
    new_is : Bool → Type 0
    new_is v = open_at new r s ≡ (if v && (s == slot) then cell else open_at columns r s)

    elsewhere : (s ≡ slot → ⊥) → IsKnown (row_at rows row) s (open_at columns r s) → IsKnown now s (open_at columns r s)
    elsewhere not h =
        record {
          on = ap (λ (xs : List (Option Opening)). slice_index_or xs s None) slots ∙ get_or-set_other (row_at rows row).slots slot s opening None not ∙ h.on;
          thread = λ o is. h.thread o is ∙ sym thread;
        }

-- ---- what a slot has pending was written

pub written_some : (events : List EventDef) (o : Open) (cell : Option Open) → cell ≡ Some o → All (IsWritten events) o.slot.records → AreWritten events cell
written_some events o cell is all p too = subst (λ (x : Open). All (IsWritten events) x.slot.records) (some_same o p cell is too) all

pub written_none : (events : List EventDef) → AreWritten events None
written_none events p is = absurd (none-some is)
  where
    none-some : None ≡ Some p → ⊥
    none-some e = cc

-- ---- the chunks of one slot change

pub pool_here : (columns : List (Option Column)) (slot : ℕ) (now : Option Column) → slot < length columns → pool_at (slice_set columns slot now) slot ≡ pool_in now
pool_here columns slot now within = ap pool_in (get_or-set_same columns slot now None within)

pub pool_other : (columns : List (Option Column)) (slot : ℕ) (now : Option Column) (s : ℕ) → slot < length columns → (s ≡ slot → ⊥) → pool_at (slice_set columns slot now) s ≡ pool_at columns s
pool_other columns slot now s within not = ap pool_in (get_or-set_other columns slot s now None not)

pub same_pools : (columns : List (Option Column)) (slot : ℕ) (now : Option Column) → slot < length columns → pool_in now ≡ pool_in (slice_index_or columns slot None) → (s : ℕ) → pool_at (slice_set columns slot now) s ≡ pool_at columns s
same_pools columns slot now within same s =
    pool_set columns slot now s within
    ∙ elim (s == slot) as (λ v. (s == slot) ≡ v → (if v then pool_in now else pool_at columns s) ≡ pool_at columns s) [
      | true ↦ λ is. same ∙ sym (ap (pool_at columns) (eqb-true s slot is))
      | false ↦ λ _. refl
    ]
    refl
