-- What else is known of rows and slots where a step is made in the tables (this project's profile).
use Rattle.std.specs.Prelude.{◌≡◌, ℕ, List, Some}
use Rattle.std.specs.List.{AllByRecursion}
use Rattle.ep_defs.specs.declared.limits.TheConstants.{THREADS}
use Rattle.ep_defs.specs.declared.event.EventDef.{EventDef}
use Rattle.ep_defs.specs.declared.session.Config.{Config}
use Rattle.ep_model.specs.Fold.{budget_of}
use Rattle.ep_model.specs.History.{Past, config_of, writes_of}
use Rattle.ep_slot.specs.Slot.{SlotState}
use Rattle.ep_row.specs.AtRest.{RowAtRest}
use Rattle.ep_stream.specs.Rows.{IsRow}
use Rattle.ep_stream.specs.Steps.{ToldRows}
use Rattle.ep_rows.specs.Rows.{told_of}
use Rattle.ep_tables.specs.declared.tables.Present.{Present}
use Rattle.ep_tables.specs.declared.tables.Tables.{Tables}

-- Each row is at rest over the writes of its thread, with the configurations of the sessions that are present, by their
-- slots.
pub record RowsRest (events : List EventDef) (past : Past) (tables : Tables) : Type 0 where
  pub configs : ℕ → Config
  pub configured : AllByRecursion (λ (p : Present). config_of p.number past ≡ Some (configs p.slot)) tables.present.items
  pub rows : (r : ℕ) → IsRow THREADS r → RowAtRest events configs (writes_of ((told_of tables.rows).row r).thread past) ((told_of tables.rows).row r)

-- What a session has pending in a slot of the row of a thread is what the past says.
abbrev pub PendingFollows : Past → ℕ → ℕ → ToldRows → ℕ → ℕ → Type 0
PendingFollows past session thread told row slot =
    (buffer : SlotState) → told.slot row slot ≡ Some buffer → buffer.pending ≡ (budget_of session past).pending thread
