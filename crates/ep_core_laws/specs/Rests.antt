-- Rows and slots are at rest over the writes that threads have made so far (this project's profile).
use Rattle.std.specs.Prelude.{◌≡◌, ℕ, ◌-◌, true, List, Option, Some, slice_get}
use Rattle.std.specs.List.{AllByRecursion}
use Rattle.ep_defs.specs.declared.limits.TheConstants.{THREADS}
use Rattle.ep_defs.specs.declared.event.EventDef.{EventDef}
use Rattle.ep_defs.specs.declared.session.Config.{Config}
use Rattle.ep_defs.specs.declared.session.Write.{Write}
use Rattle.ep_model.specs.History.{Past, config_of, writes_of}
use Rattle.ep_slot.specs.Slot.{SlotState}
use Rattle.ep_row.specs.AtRest.{RowAtRest, SlotAtRest}
use Rattle.ep_stream.specs.Rows.{IsRow}
use Rattle.ep_stream.specs.Session.{rest_of}
use Rattle.ep_stream.specs.Steps.{ToldRows}
use Rattle.ep_rows.specs.Rows.{told_of}
use Rattle.ep_tables.specs.declared.tables.Present.{Present}
use Rattle.ep_tables.specs.declared.tables.Tables.{Tables}
use Rattle.ep_core_laws.specs.Kept.{IsLast}

-- The writes of the thread of a row, so far.
abbrev pub writes_on : Past → ToldRows → ℕ → List Write
writes_on past told row = writes_of (told.row row).thread past

-- Each row and each slot is at rest over the writes of its thread, with the configurations of the sessions that are
-- present, by their slots. These are the ones that they were accepted with, and that they keep.
pub record AreAtRest (events : List EventDef) (past : Past) (tables : Tables) : Type 0 where
  pub configs : ℕ → Config
  pub configured : AllByRecursion (λ (p : Present). config_of p.number past ≡ Some (configs p.slot)) tables.present.items
  pub kept : AllByRecursion (λ (p : Present). (rest_of p.session).config ≡ configs p.slot) tables.present.items
  pub rows : (r : ℕ) → IsRow THREADS r → RowAtRest events configs (writes_on past (told_of tables.rows) r) ((told_of tables.rows).row r)
  pub slots : (r s : ℕ) → IsRow THREADS r → (slot : SlotState) → (told_of tables.rows).slot r s ≡ Some slot → SlotAtRest events (configs s) (writes_on past (told_of tables.rows) r) slot

-- The write is kept in the list of begun writes at the row's place.
abbrev pub IsKeptAt : ℕ → Write → List (Option Write) → Type 0
IsKeptAt row write begun = slice_get begun (row - 1) ≡ Some (Some write)

-- The write that a row is in is kept in the list at the row's place, and is the last one that its thread began.
pub record AreBegun (past : Past) (told : ToldRows) (begun : List (Option Write)) : Type 0 where
  pub kept : (r : ℕ) → IsRow THREADS r → (told.row r).in_write ≡ true
      → (write : Write) × IsKeptAt r write begun × IsLast (told.row r).thread past (told.row r).stamp write
