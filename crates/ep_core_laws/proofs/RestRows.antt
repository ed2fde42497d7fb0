-- What rows that are told know of their events and slots.
use Rattle.std.proofs.Common.{◌≡◌, ℕ, true, inl, inr, List, length, Option, Some, None, refl, ap, sym, ◌∙◌, subst, if◌then◌else◌}
use Rattle.std.specs.Prelude.{◌&&◌, is_some, option_map, ◌==◌}
use Rattle.std.proofs.lemmas.Bool.{eqb-true, and_parts, cases_Bool}
use Rattle.ep_defs.specs.declared.limits.TheConstants.{THREADS}
use Rattle.ep_defs.specs.declared.event.EventDef.{EventDef}
use Rattle.ep_model.specs.History.{Past}
use Rattle.ep_slot.specs.Slot.{SlotState}
use Rattle.ep_row.specs.Row.{slot_of, opening_of}
use Rattle.ep_stream.specs.Rows.{IsRow, IsSetAt}
use Rattle.ep_rows.specs.declared.opened.Open.{Open}
use Rattle.ep_rows.specs.Rows.{told_of}
use Rattle.ep_rows.specs.Told.{slot_in, open_at}
use Rattle.ep_tables.specs.declared.tables.Tables.{Tables}
use Rattle.ep_tables.specs.Tables.{TablesFollow}

-- A row has a mask for each event.
pub masks_are : (events : List EventDef) (past : Past) (tables : Tables) (r : ℕ) → TablesFollow events past tables → IsRow THREADS r → length events ≡ length ((told_of tables.rows).row r).masks
masks_are events past tables r h is_row = ap length (sym h.known) ∙ sym (tables.rows.masks r is_row)

-- What holds of the slot that is set and of each that was there, holds of each that is there.
pub set_slot : (row place : ℕ) (value : Option SlotState) (old new : ℕ → ℕ → Option SlotState) (P : ℕ → ℕ → SlotState → Type 0) → IsSetAt row place value old new
    → (r s : ℕ) (slot : SlotState) → (value ≡ Some slot → P row place slot) → (old r s ≡ Some slot → P r s slot) → new r s ≡ Some slot → P r s slot
set_slot row place value old new P sets r s slot here elsewhere is =
    elim (cases_Bool ((r == row) && (s == place))) [
      | inl both ↦
          let parts = and_parts (r == row) (s == place) both in
          let there : value ≡ Some slot = sym (sets r s ∙ ap (λ b. if b then value else old r s) both) ∙ is in
          let Q : ℕ → Type 0 = λ n. P n s slot in
          let R : ℕ → Type 0 = λ n. P row n slot in
          subst Q (sym (eqb-true r row parts.0)) (subst R (sym (eqb-true s place parts.1)) (here there))
      | inr off ↦ elsewhere (sym (sets r s ∙ ap (λ b. if b then value else old r s) off) ∙ is)
    ]

on_in : (cell : Option Open) (slot : SlotState) → slot_in cell ≡ Some slot → is_some (option_map (λ (o : Open). opening_of o.slot) cell) ≡ true
on_in None slot is = cc
on_in (Some opened) slot is = refl

-- A row knows of what is open in its slots.
pub slot_on : (tables : Tables) (r s : ℕ) (slot : SlotState) → (told_of tables.rows).slot r s ≡ Some slot → is_some (slot_of ((told_of tables.rows).row r) s) ≡ true
slot_on tables r s slot is =
    ap is_some (tables.rows.known r s).on ∙ on_in (open_at tables.rows.columns.items r s) slot is
