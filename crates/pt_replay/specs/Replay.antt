-- What replaying a schedule for a session comes to.
use Rattle.std.specs.Prelude.{◌≡◌, ℕ, ◌⊎◌, true, false, List}
use Rattle.ep_defs.specs.Session.{standard_info_of}
use Rattle.ep_model.specs.History.{is_finished}
use Rattle.ep_model.specs.Lawful.{IsLawful}
use Rattle.ep_core.specs.Streams.{IsStreamOf}
use Rattle.ep_plan.specs.declared.line.Line.{Line}
use Rattle.pt_report.specs.Found.{IsWhole, IsReported}
use Rattle.pt_report.specs.Shares.{session_lines, ReportsThreads}
use Rattle.pt_replay.specs.declared.errors.Refusal.{Refusal}
use Rattle.pt_replay.specs.Errors.{refusal_error, unfinished_error}
use Rattle.pt_replay.specs.Schedule.{definitions_of, past_of, IsSchedule, IsRefused}

-- The stream is what replaying the bytes for a session gives: they are a schedule, each of its steps could be made, the
-- session is finished, and the stream is the one of what the session tells and, without a rundown's items, faithful.
-- `report` takes the stream, and prints of each thread how many of its events were written, the last number and how many
-- were refused; with a rundown it prints of thread 0 how many definitions were used.
pub record IsReplayed (session : ℕ) (bytes stream : List ℕ) : Type 0 where
  pub lines : List Line
  pub schedule : IsSchedule bytes lines
  pub lawful : IsLawful (definitions_of lines) (past_of lines)
  pub finished : is_finished session (past_of lines) ≡ true
  pub told : IsStreamOf (definitions_of lines) (standard_info_of 1 1) session (past_of lines) stream
  -- `report` takes it
  pub whole : IsWhole stream
  -- each report of it has these lines of threads
  pub threads : (text : List ℕ) → IsReported stream text
      → ReportsThreads stream (session_lines (definitions_of lines) session (past_of lines)) text

-- The bytes are a schedule that does not finish the session.
abbrev pub IsUnfinished : ℕ → List ℕ → Type 0
IsUnfinished session bytes = (lines : List Line) × IsSchedule bytes lines × (is_finished session (past_of lines) ≡ false)

-- The bytes are a schedule that finishes the session.
abbrev pub Finishes : ℕ → List ℕ → Type 0
Finishes session bytes = (lines : List Line) × IsSchedule bytes lines × (is_finished session (past_of lines) ≡ true)

-- The error line for bytes that can't be replayed for a session.
abbrev pub IsError : ℕ → List ℕ → List ℕ → Type 0
IsError session bytes text =
    ((refusal : Refusal) × IsRefused bytes refusal × (text ≡ refusal_error refusal))
    ⊎ (IsUnfinished session bytes × (text ≡ unfinished_error session))
