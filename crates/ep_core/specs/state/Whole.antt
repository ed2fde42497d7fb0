-- What a whole write makes of the tables.
use Rattle.std.specs.Prelude.{ℕ, List, Option}
use Rattle.ep_defs.specs.declared.event.EventDef.{EventDef}
use Rattle.ep_defs.specs.declared.session.TraceInfo.{TraceInfo}
use Rattle.ep_defs.specs.declared.session.Write.{Write}
use Rattle.ep_model.specs.History.{Past}
use Rattle.ep_model.specs.Lawful.{IsLawful}
use Rattle.ep_tables.specs.declared.tables.Tables.{Tables}
use Rattle.ep_core_laws.specs.Works.{Works}
use Rattle.ep_core.specs.Writes.{with_write}

-- The tables stand for some steps, after which the whole write can be made.
pub record CanWriteIn (thread stamp : ℕ) (write : Write) (sessions : List ℕ) (tables : Tables) : Type 0 where
  pub events : List EventDef
  pub info : TraceInfo
  pub past : Past
  pub begun : List (Option Write)
  pub works : Works events info past tables begun
  pub lawful : IsLawful events (with_write thread stamp write sessions past)

-- The whole write was made, whatever the steps before were, and the writes that are kept stay.
abbrev pub WritesIn : ℕ → ℕ → Write → List ℕ → Tables → Tables → Type 0
WritesIn thread stamp write sessions old new =
    (events : List EventDef) (info : TraceInfo) (past : Past) (begun : List (Option Write))
    → Works events info past old begun → IsLawful events (with_write thread stamp write sessions past)
    → Works events info (with_write thread stamp write sessions past) new begun
