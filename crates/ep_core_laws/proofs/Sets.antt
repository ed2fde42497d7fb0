-- Tables by row and slot of which one place is set, and what is open on a row.
use Rattle.std.proofs.Common.{◌≡◌, ℕ, Bool, true, false, inl, inr, Option, Some, None, refl, ap, sym, ◌∙◌, subst}
use Rattle.std.specs.Prelude.{◌==◌, if◌then◌else◌, is_some}
use Rattle.std.proofs.lemmas.Bool.{eq-eqb, ne_eqb, and_from, and_left, and_right, cases_eq}
use Rattle.ep_defs.specs.declared.limits.TheConstants.{THREADS}
use Rattle.ep_row.specs.Row.{RowState, slot_of}
use Rattle.ep_slot.specs.Slot.{SlotState}
use Rattle.ep_stream.specs.Rows.{IsRow, IsSetAt}
use Rattle.ep_stream.specs.Steps.{ToldRows}
use Rattle.ep_rows.specs.declared.opened.Open.{Open}
use Rattle.ep_rows.specs.declared.rows.Rows.{Rows}
use Rattle.ep_rows.specs.Rows.{told_of}
use Rattle.ep_rows.specs.Told.{IsKnown, open_at, slot_in}

-- ---- one place is set

-- The place that is set has the value.
pub set_here : (row slot : ℕ) (value : Option SlotState) (old new : ℕ → ℕ → Option SlotState) → IsSetAt row slot value old new → new row slot ≡ value
set_here row slot value old new sets =
    sets row slot ∙ ap (λ (b : Bool). if b then value else old row slot) (and_from (row == row) (slot == slot) (eq-eqb row row refl) (eq-eqb slot slot refl))

set_off_row : (row slot : ℕ) (value : Option SlotState) (old new : ℕ → ℕ → Option SlotState) → IsSetAt row slot value old new → (r : ℕ) → (r ≡ row → ⊥) → new r slot ≡ old r slot
set_off_row row slot value old new sets r other =
    sets r slot ∙ ap (λ (b : Bool). if b then value else old r slot) (and_left (r == row) (slot == slot) (ne_eqb r row other))

pub set_off_slot : (row slot : ℕ) (value : Option SlotState) (old new : ℕ → ℕ → Option SlotState) → IsSetAt row slot value old new → (s : ℕ) → (s ≡ slot → ⊥) → (r : ℕ) → new r s ≡ old r s
set_off_slot row slot value old new sets s other r =
    sets r s ∙ ap (λ (b : Bool). if b then value else old r s) (and_right (r == row) (s == slot) (ne_eqb s slot other))

-- What holds of the value that is set, and of what stands in the slot on other rows, holds of all that stands in the slot.
pub each_slot : (row slot : ℕ) (value : Option SlotState) (old new : ToldRows) (P : SlotState → Type 0) → IsSetAt row slot value old.slot new.slot
    → ((b : SlotState) → value ≡ Some b → P b)
    → ((r : ℕ) → IsRow THREADS r → (r ≡ row → ⊥) → (b : SlotState) → old.slot r slot ≡ Some b → P b)
    → (r : ℕ) → IsRow THREADS r → (b : SlotState) → new.slot r slot ≡ Some b → P b
each_slot row slot value old new P sets here others r is_row b at =
    elim (cases_eq r row) [
      | inl same ↦ let At : ℕ → Type 0 = λ n. new.slot n slot ≡ Some b in here b (sym (set_here row slot value old.slot new.slot sets) ∙ subst At same at)
      | inr other ↦ others r is_row other b (sym (set_off_row row slot value old.slot new.slot sets r other) ∙ at)
    ]

-- ---- what is open on a row

thread_in : (row : RowState) (slot : ℕ) (cell : Option Open) (b : SlotState) → IsKnown row slot cell → slot_in cell ≡ Some b → b.thread ≡ row.thread
thread_in row slot None b known is = absurd (cc)
thread_in row slot (Some o) b known is = let same : o.slot ≡ b = cc in let P : SlotState → Type 0 = λ s. s.thread ≡ row.thread in subst P same (known.thread o refl)

-- What is open on a row is of the row's thread.
pub row_thread : (rows : Rows) (r slot : ℕ) (b : SlotState) → (told_of rows).slot r slot ≡ Some b → b.thread ≡ ((told_of rows).row r).thread
row_thread rows r slot b is = thread_in ((told_of rows).row r) slot (open_at rows.columns.items r slot) b (rows.known r slot) is

-- Something is open.
pub record Opened (told : Option SlotState) : Type 0 where
  pub buffer : SlotState
  pub is : told ≡ Some buffer

opened_in : (row : RowState) (slot : ℕ) (cell : Option Open) → IsKnown row slot cell → is_some (slot_of row slot) ≡ true → Opened (slot_in cell)
opened_in row slot None known on = let none : is_some (slot_of row slot) ≡ false = ap is_some known.on in absurd (cc)
opened_in row slot (Some o) known on = record { buffer = o.slot; is = refl }

-- A session for which a row has something is open on it.
pub row_opened : (rows : Rows) (r slot : ℕ) → is_some (slot_of ((told_of rows).row r) slot) ≡ true → Opened ((told_of rows).slot r slot)
row_opened rows r slot on = opened_in ((told_of rows).row r) slot (open_at rows.columns.items r slot) (rows.known r slot) on
