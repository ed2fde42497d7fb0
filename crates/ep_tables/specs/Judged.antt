-- What judging a step answers: the first kind that stands against it, or the step with what it found (this project's
-- profile).
use Rattle.std.specs.Prelude.{◌≡◌, ◌==◌, ℕ, true, List, Option, Some, None, position, Result, Ok, Err, IfOk, IsNone}
use Rattle.std.specs.List.{All}
use Rattle.ep_defs.specs.declared.limits.TheConstants.{THREADS}
use Rattle.ep_defs.specs.declared.event.EventDef.{EventDef}
use Rattle.ep_model.specs.declared.step.Kind.{Kind}
use Rattle.ep_model.specs.declared.step.Step.{Step}
use Rattle.ep_model.specs.declared.step.Step.TheVariants as step
use Rattle.ep_model.specs.History.{Past}
use Rattle.ep_model.specs.Lawful.{objection_to}
use Rattle.ep_stream.specs.Rows.{IsRow}
use Rattle.ep_rows.specs.Rows.{told_of}
use Rattle.ep_tables.specs.declared.judged.Judged.{Judged}
use Rattle.ep_tables.specs.declared.judged.Judged.TheVariants as judged
use Rattle.ep_tables.specs.declared.judged.OfSession.{OfSession}
use Rattle.ep_tables.specs.declared.judged.OnBoth.{OnBoth}
use Rattle.ep_tables.specs.declared.judged.OnRow.{OnRow}
use Rattle.ep_tables.specs.declared.tables.Present.{Present}
use Rattle.ep_tables.specs.declared.tables.Tables.{Tables}
use Rattle.ep_tables.specs.Can.{CanMake}
use Rattle.ep_tables.specs.Tables.{TablesFollow, row_of}

-- ---- what is found

-- The row is the thread's own.
pub record HasOwn (tables : Tables) (on : OnRow) : Type 0 where
  pub own : row_of tables on.thread ≡ Some on.row
  pub is_row : IsRow THREADS on.row

-- The place is the session's, among those that are present.
abbrev pub StandsIn : Tables → OfSession → Type 0
StandsIn tables of = position (λ (p : Present). p.number == of.session) tables.present.items ≡ Some of.place

-- Both.
pub record HasBoth (tables : Tables) (both : OnBoth) : Type 0 where
  pub of : StandsIn tables both.of
  pub on : HasOwn tables both.on

-- The row is free: its thread has left, and no session is open on it.
pub record IsFree (tables : Tables) (row : ℕ) : Type 0 where
  pub is_row : IsRow THREADS row
  pub left : ((told_of tables.rows).row row).left ≡ true
  pub off : All IsNone ((told_of tables.rows).row row).slots

-- What was found is there in the tables.
abbrev pub IsThere : Tables → Judged → Type 0
IsThere tables (judged.Accept s config) = Unit {0}
IsThere tables (judged.Enter on) = IsFree tables on.row
IsThere tables (judged.Leave on) = HasOwn tables on
IsThere tables (judged.Open both) = HasBoth tables both
IsThere tables (judged.Begin on stamp write) = HasOwn tables on
IsThere tables (judged.Show both) = HasBoth tables both
IsThere tables (judged.End on) = HasOwn tables on
IsThere tables (judged.Steal both) = HasBoth tables both
IsThere tables (judged.Give of) = StandsIn tables of
IsThere tables (judged.Point of stamp) = StandsIn tables of
IsThere tables (judged.Close both) = HasBoth tables both
IsThere tables (judged.Finish of stamp) = StandsIn tables of

-- The step that was judged.
abbrev pub step_of : Judged → Step
step_of (judged.Accept s config) = step.Accept s config
step_of (judged.Enter on) = step.Enter on.thread
step_of (judged.Leave on) = step.Leave on.thread
step_of (judged.Open both) = step.Open both.of.session both.on.thread
step_of (judged.Begin on stamp write) = step.Begin on.thread stamp write
step_of (judged.Show both) = step.Show both.on.thread both.of.session
step_of (judged.End on) = step.End on.thread
step_of (judged.Steal both) = step.Steal both.of.session both.on.thread
step_of (judged.Give of) = step.Give of.session
step_of (judged.Point of stamp) = step.Point of.session stamp
step_of (judged.Close both) = step.Close both.of.session both.on.thread
step_of (judged.Finish of stamp) = step.Finish of.session stamp

-- The step with what was found, which is there.
pub record Finds (tables : Tables) (made : Step) (judged : Judged) : Type 0 where
  pub step_is : step_of judged ≡ made
  pub there : IsThere tables judged

-- ---- what is answered

-- The kind that is answered, if one is.
abbrev pub kind_in : {A : Type 0} → Result A Kind → Option Kind
kind_in (Ok answer) = None
kind_in (Err kind) = Some kind

-- Where the tables stand for the steps so far, this holds of them.
abbrev pub Tells : Tables → (List EventDef → Past → Type 0) → Type 0
Tells tables Holds = (events : List EventDef) (past : Past) → TablesFollow events past tables → Holds events past

-- The tables answer the first kind that stands against the step, and find what a step needs against which nothing does.
pub record Judges (tables : Tables) (made : Step) (result : Result Judged Kind) : Type 0 where
  pub kind_is : Tells tables (λ events past. kind_in result ≡ objection_to events past made)
  pub found : IfOk result (Finds tables made)

-- ---- what a step needs that is made

-- The step can be made, with what was found.
pub record IsReady (tables : Tables) (judged : Judged) : Type 0 where
  pub there : IsThere tables judged
  pub can : CanMake (step_of judged) tables
