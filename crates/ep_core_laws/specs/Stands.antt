-- What the tables have of sessions is what the steps so far say (this project's profile).
use Rattle.std.specs.Prelude.{◌≡◌, ℕ, Bool, ◌==◌, true, List, [], ◌∷◌, Some}
use Rattle.std.specs.List.{AllByRecursion}
use Rattle.ep_defs.specs.Definitions.{definition_at}
use Rattle.ep_defs.specs.declared.limits.TheConstants.{THREADS}
use Rattle.ep_defs.specs.declared.event.EventDef.{EventDef}
use Rattle.ep_defs.specs.declared.session.TraceInfo.{TraceInfo}
use Rattle.pt_io.specs.Memory.{SinkState}
use Rattle.ep_model.specs.declared.step.Step.{Step}
use Rattle.ep_model.specs.declared.step.Step.TheVariants as step
use Rattle.ep_model.specs.Entries.{entries}
use Rattle.ep_model.specs.History.{Past}
use Rattle.ep_model.specs.Lawful.{IsLawful}
use Rattle.ep_slot.specs.Slot.{SlotState}
use Rattle.ep_stream.specs.Rows.{IsRow}
use Rattle.ep_stream.specs.Steps.{ToldRows}
use Rattle.ep_stream.specs.Session.{rest_of, writer_of}
use Rattle.ep_stream.specs.Telling.{IsTelling}
use Rattle.ep_rows.specs.Rows.{told_of}
use Rattle.ep_tables.specs.declared.tables.Present.{Present}
use Rattle.ep_tables.specs.declared.tables.Tables.{Tables}
use Rattle.ep_tables.specs.Tables.{TablesFollow}
use Rattle.ep_tables.specs.Tied.{AreTied}
use Rattle.ep_core_laws.specs.Kept.{SlotFollows, PoolFollows}
use Rattle.ep_stream_laws.specs.Kept.{RestFollows}
use Rattle.ep_stream_laws.specs.Makers.{is_made_by}

-- What a session that is present has on the rows, in its pool, in its memory and in its stream is what the steps so far
-- say.
pub record SessionStands (events : List EventDef) (info : TraceInfo) (past : Past) (told : ToldRows) (present : Present) : Type 0 where
  pub slots : (r : ℕ) → IsRow THREADS r → (slot : SlotState) → told.slot r present.slot ≡ Some slot → SlotFollows events past present.number slot
  pub pool : PoolFollows past present.number (told.pool present.slot)
  pub rest : RestFollows past (rest_of present.session)
  pub telling : IsTelling (λ (s : SinkState). true) (λ (s : SinkState). s.taken) [] (definition_at events) info (entries events present.number past) (writer_of present.session)

-- What the tables have of each session that is present is what the steps so far say.
abbrev pub SessionsStand : List EventDef → TraceInfo → Past → Tables → Type 0
SessionsStand events info past tables = AllByRecursion (SessionStands events info past (told_of tables.rows)) tables.present.items

-- ---- steps

-- The step is the session's own, or shows it a write.
abbrev pub is_for : ℕ → Step → Bool
is_for session (step.Show t s) = s == session
is_for session other = is_made_by session other

-- What the rows and the pools have in a slot stays.
pub record KeepsSlot (slot : ℕ) (old new : ToldRows) : Type 0 where
  pub slots : (r : ℕ) → new.slot r slot ≡ old.slot r slot
  pub pool : new.pool slot ≡ old.pool slot

-- Through a step that can be made next a session stands on, if it stood before.
abbrev pub StandsOn : Step → ToldRows → ToldRows → Present → Type 0
StandsOn made old new present =
    (events : List EventDef) (info : TraceInfo) (past : Past)
    → IsLawful events (made ∷ past) → SessionStands events info past old present → SessionStands events info (made ∷ past) new present

-- The step can be made next, and the tables have of the sessions, threads and rows what the steps so far say.
pub record StandBefore (events : List EventDef) (info : TraceInfo) (next : Step) (past : Past) (tables : Tables) : Type 0 where
  pub lawful : IsLawful events (next ∷ past)
  pub follow : TablesFollow events past tables
  pub tied : AreTied tables
  pub stand : SessionsStand events info past tables
