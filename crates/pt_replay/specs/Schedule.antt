-- Which texts are schedules, and where others are refused.
use Rattle.std.specs.Prelude.{◌≡◌, ℕ, ◌+◌, Bool, true, false, ◌⊎◌, List, [], ◌∷◌, ◌++◌, length, Option, Some, None}
use Rattle.ep_defs.specs.declared.event.EventDef.{EventDef}
use Rattle.ep_model.specs.declared.step.Step.{Step}
use Rattle.ep_model.specs.History.{Past}
use Rattle.ep_model.specs.Lawful.{objection_to}
use Rattle.ep_plan.specs.Lines.{Bad, bad_of, IsLine}
use Rattle.ep_plan.specs.declared.line.Line.{Line}
use Rattle.ep_plan.specs.declared.line.Line.TheVariants as line
use Rattle.pt_replay.specs.declared.errors.Reason.{Reason}
use Rattle.pt_replay.specs.declared.errors.Reason.TheVariants as reason
use Rattle.pt_replay.specs.declared.errors.Refusal.{Refusal}
use Rattle.pt_replay.specs.Text.{lines_of}

-- ---- what the lines so far, the newest first, have come to

-- The definitions of events, the first one first.
abbrev pub definitions_of : List Line → List EventDef
definitions_of [] = []
definitions_of (line.Event index def ∷ before) = definitions_of before ++ def ∷ []
definitions_of (_ ∷ before) = definitions_of before

-- The steps, the newest first.
abbrev pub past_of : List Line → Past
past_of [] = []
past_of (line.Step step ∷ before) = step ∷ past_of before
past_of (_ ∷ before) = past_of before

-- Some step came.
abbrev pub has_stepped : Past → Bool
has_stepped [] = false
has_stepped (step ∷ past) = true

-- ---- a line

-- What is wrong with the line behind these.
abbrev pub bad_after : List Line → List ℕ → Option Bad
bad_after before text = bad_of (definitions_of before) (has_stepped (past_of before)) text

-- The line means this behind these.
abbrev pub Says : List Line → List ℕ → Line → Type 0
Says before text line = IsLine (definitions_of before) (has_stepped (past_of before)) text line

-- A step can be made behind those before it.
abbrev pub CanBeMade : List Line → Line → Type 0
CanBeMade before (line.Step step) = objection_to (definitions_of before) (past_of before) step ≡ None
CanBeMade before (line.Event index def) = Unit {0}
CanBeMade before line.Blank = Unit {0}

-- A good line.
pub record Takes (before : List Line) (text : List ℕ) (line : Line) : Type 0 where
  pub says : Says before text line
  pub made : CanBeMade before line

-- Why a line behind these is refused, and at which column.
abbrev pub IsWhy : List Line → List ℕ → ℕ → Reason → Type 0
IsWhy before text column (reason.Line kind) = bad_after before text ≡ Some (record { column = column; kind = kind })
IsWhy before text column (reason.Step kind) =
    (column ≡ 1) × ((step : Step) × Says before text (line.Step step) × (objection_to (definitions_of before) (past_of before) step ≡ Some kind))

-- The line behind these is refused so. Lines are numbered from 1.
pub record Refuses (before : List Line) (text : List ℕ) (refusal : Refusal) : Type 0 where
  pub number : refusal.line ≡ length before + 1
  pub why : IsWhy before text refusal.column refusal.reason

-- ---- a text

-- The texts are good lines, one after another, and are all the lines then.
abbrev pub AreGood : List Line → List (List ℕ) → List Line → Type 0
AreGood before [] after = after ≡ before
AreGood before (text ∷ texts) after = (line : Line) × Takes before text line × AreGood (line ∷ before) texts after

-- The first of the texts that is no good line is refused so.
abbrev pub HaveRefused : List Line → List (List ℕ) → Refusal → Type 0
HaveRefused before [] refusal = ⊥
HaveRefused before (text ∷ texts) refusal =
    Refuses before text refusal ⊎ ((line : Line) × Takes before text line × HaveRefused (line ∷ before) texts refusal)

-- The bytes are a schedule of these lines, the newest first.
abbrev pub IsSchedule : List ℕ → List Line → Type 0
IsSchedule bytes lines = AreGood [] (lines_of bytes) lines

-- A line of the bytes is refused so.
abbrev pub IsRefused : List ℕ → Refusal → Type 0
IsRefused bytes refusal = HaveRefused [] (lines_of bytes) refusal
