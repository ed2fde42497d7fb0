-- What the program has read of a schedule.
use Rattle.std.specs.Prelude.{◌≡◌, ℕ, ◌+◌, ◌≤◌, Bool, not, ◌==◌, List, ◌∷◌, ◌++◌, length, Option, Some, None, IsTrue}
use Rattle.std.specs.List.{list_all}
use Rattle.ep_defs.specs.Event.{is_valid_event}
use Rattle.ep_rundown.specs.Rundown.{lacks_rundown}
use Rattle.ep_model.specs.Lawful.{IsLawful}
use Rattle.ep_defs.specs.Definitions.{AreDistinct}
use Rattle.ep_defs.specs.declared.limits.TheConstants.{EVENTS}
use Rattle.ep_model.specs.History.{event_at}
use Rattle.ep_plan.specs.declared.limits.TheConstants.{LINE_BYTES}
use Rattle.ep_plan.specs.declared.line.Line.{Line}
use Rattle.pt_replay.specs.declared.errors.Refusal.{Refusal}
use Rattle.pt_replay.specs.declared.schedule.Schedule.{Schedule}
use Rattle.pt_replay.specs.declared.text.Reader.{Reader}
use Rattle.pt_replay.specs.Text.{lines_of}
use Rattle.pt_replay.specs.Machines.{IsMachineOf}
use Rattle.pt_replay.specs.Schedule.{definitions_of, past_of, Takes, Refuses, AreGood, HaveRefused, IsSchedule, IsRefused}

-- The schedule stands for these lines, the newest first.
pub record HasTaken (lines : List Line) (schedule : Schedule) : Type 0 where
  pub count : schedule.lines ≡ length lines
  pub events_are : schedule.events.items ≡ definitions_of lines
  pub machine_is : IsMachineOf (definitions_of lines) (past_of lines) schedule.lines schedule.machine
  -- what a machine wants of definitions
  pub few : length (definitions_of lines) ≤ EVENTS
  pub valid : IsTrue (list_all is_valid_event (definitions_of lines))
  pub distinct : AreDistinct (event_at (definitions_of lines))
  pub lacks : IsTrue (lacks_rundown (definitions_of lines))
  pub lawful : IsLawful (definitions_of lines) (past_of lines)

-- How many lines came.
abbrev pub lines_in : Schedule → ℕ
lines_in schedule = schedule.lines

-- The text is a good line behind these, for which the schedule stands then, or is refused.
abbrev pub IsLineJudged : List Line → List ℕ → Schedule → Option Refusal → Type 0
IsLineJudged lines text schedule None = (line : Line) × Takes lines text line × HasTaken (line ∷ lines) schedule
IsLineJudged lines text schedule (Some refusal) = Refuses lines text refusal

-- No byte is a line feed.
abbrev pub is_line : List ℕ → Bool
is_line text = list_all (λ byte. not (byte == 10)) text

-- The bytes are good lines, for which the schedule stands, and a part of a line.
pub record AreGoodSoFar (bytes : List ℕ) (schedule : Schedule) (part : List ℕ) : Type 0 where
  pub lines : List Line
  pub stands : HasTaken lines schedule
  -- whatever follows, the whole is judged by the part and what follows, behind these lines
  pub good : (rest : List ℕ) (after : List Line) → AreGood lines (lines_of (part ++ rest)) after → IsSchedule (bytes ++ rest) after
  pub refused : (rest : List ℕ) (refusal : Refusal) → HaveRefused lines (lines_of (part ++ rest)) refusal → IsRefused (bytes ++ rest) refusal
  pub no_feed : IsTrue (list_all (λ byte. not (byte == 10)) part)
  pub short : length part ≤ LINE_BYTES

-- The bytes are good so far, or whatever follows is refused.
abbrev pub IsSoFar : List ℕ → Schedule → List ℕ → Option Refusal → Type 0
IsSoFar bytes schedule part None = AreGoodSoFar bytes schedule part
IsSoFar bytes schedule part (Some refusal) = (rest : List ℕ) → IsRefused (bytes ++ rest) refusal

-- The reader has read these bytes.
abbrev pub HasRead : List ℕ → Reader → Type 0
HasRead bytes reader = IsSoFar bytes reader.schedule reader.part.items reader.refusal

-- The lines and the bytes of the line that is not ended.
abbrev pub used : Reader → ℕ
used reader = reader.schedule.lines + length reader.part.items

-- The bytes are a schedule, for which the lines stand, or are refused.
abbrev pub IsJudgedAs : List ℕ → Schedule → Option Refusal → Type 0
IsJudgedAs bytes schedule None = (lines : List Line) × IsSchedule bytes lines × HasTaken lines schedule
IsJudgedAs bytes schedule (Some refusal) = IsRefused bytes refusal

-- The reader has judged these bytes.
abbrev pub IsJudged : List ℕ → Reader → Type 0
IsJudged bytes reader = IsJudgedAs bytes reader.schedule reader.refusal
