-- What a machine keeps is what the steps so far say (this project's profile).
use Rattle.std.specs.Prelude.{◌≡◌, ◌≤◌, ◌+◌, List, ◌∷◌, length, Option}
use Rattle.ep_defs.specs.declared.limits.TheConstants.{THREADS}
use Rattle.ep_defs.specs.declared.event.EventDef.{EventDef}
use Rattle.ep_defs.specs.declared.session.TraceInfo.{TraceInfo}
use Rattle.ep_defs.specs.declared.session.Write.{Write}
use Rattle.ep_model.specs.declared.step.Step.{Step}
use Rattle.ep_model.specs.History.{Past}
use Rattle.ep_model.specs.Lawful.{IsLawful}
use Rattle.ep_rows.specs.Rows.{told_of}
use Rattle.ep_tables.specs.declared.tables.Tables.{Tables}
use Rattle.ep_tables.specs.Tables.{TablesFollow}
use Rattle.ep_tables.specs.Tied.{AreTied}
use Rattle.ep_core_laws.specs.Rests.{AreAtRest, AreBegun}
use Rattle.ep_core_laws.specs.Stands.{SessionsStand}

-- The tables, and the writes that were begun, by row, are what the steps so far say.
pub record Works (events : List EventDef) (info : TraceInfo) (past : Past) (tables : Tables) (begun : List (Option Write)) : Type 0 where
  pub lawful : IsLawful events past
  pub follow : TablesFollow events past tables
  pub tied : AreTied tables
  pub stand : SessionsStand events info past tables
  pub rest : AreAtRest events past tables
  pub begun_are : AreBegun past (told_of tables.rows) begun
  pub begun_count : length begun ≡ THREADS
  -- a table gives as many ids as sessions were accepted, whose numbers rise
  pub ids : tables.table.next ≤ tables.last_session + 1

-- The step can be made next.
pub record WorksBefore (events : List EventDef) (info : TraceInfo) (next : Step) (past : Past) (tables : Tables) (begun : List (Option Write)) : Type 0 where
  pub lawful : IsLawful events (next ∷ past)
  pub works : Works events info past tables begun

-- Some lawful steps led here, and the step can be made behind them.
pub record CanGoOn (next : Step) (tables : Tables) (begun : List (Option Write)) : Type 0 where
  pub events : List EventDef
  pub info : TraceInfo
  pub past : Past
  pub before : WorksBefore events info next past tables begun

-- ---- steps

-- Through the step a machine works on, whatever the steps before were: with the old tables and writes it can make the step
-- next, and with the new ones it works.
abbrev pub WorksOnWith : TraceInfo → Step → Tables → List (Option Write) → Tables → List (Option Write) → Type 0
WorksOnWith info made old begun new after =
    (events : List EventDef) (past : Past) → WorksBefore events info made past old begun → Works events info (made ∷ past) new after

-- The same, with whatever a stream says of the machine that was traced.
abbrev pub WorksOn : Step → Tables → List (Option Write) → Tables → List (Option Write) → Type 0
WorksOn made old begun new after = (info : TraceInfo) → WorksOnWith info made old begun new after
