-- What a session that finishes leaves (this project's profile).
use Rattle.std.specs.Prelude.{◌≡◌, ℕ, List, Option}
use Rattle.ep_defs.specs.declared.event.EventDef.{EventDef}
use Rattle.ep_defs.specs.declared.session.TraceInfo.{TraceInfo}
use Rattle.ep_defs.specs.declared.session.Write.{Write}
use Rattle.pt_io.specs.Memory.{SinkState}
use Rattle.nt_write.specs.Canonical.{IsCanonical}
use Rattle.ep_model.specs.declared.step.Step.TheVariants as step
use Rattle.ep_model.specs.History.{Past}
use Rattle.ep_told.specs.Told.{told_entries}
use Rattle.ep_stream.specs.declared.session.SessionEnd.{SessionEnd}
use Rattle.ep_stream.specs.declared.session.Fate.TheVariants.{ProgramEnd}
use Rattle.ep_tables.specs.declared.tables.Tables.{Tables}
use Rattle.ep_tables.specs.Made.{EndsAs}
use Rattle.ep_core_laws.specs.Works.{WorksBefore}

-- The session can finish behind these steps, and ends so.
pub record EndsNext (events : List EventDef) (info : TraceInfo) (past : Past) (session stamp : ℕ) (end : SessionEnd SinkState) : Type 0 where
  pub tables : Tables
  pub begun : List (Option Write)
  pub before : WorksBefore events info (step.Finish session stamp) past tables begun
  pub ended : EndsAs session stamp tables end

-- Where the session's end is the program's, it leaves the one stream of what it tells, with the section of a rundown where
-- it was asked for one.
abbrev pub LeavesStream : List EventDef → TraceInfo → ℕ → Past → SessionEnd SinkState → Type 0
LeavesStream events info session past end =
    end.fate ≡ ProgramEnd → IsCanonical info (told_entries events session past) end.sink.taken
