-- What a text comes to for a session.
use Rattle.std.specs.Prelude.{ℕ, List}
use Rattle.pt_replay.specs.declared.text.Outcome.{Outcome}
use Rattle.pt_replay.specs.declared.text.Outcome.TheVariants as outcome
use Rattle.pt_replay.specs.Schedule.{IsRefused}
use Rattle.pt_replay.specs.Replay.{IsReplayed, IsUnfinished}

-- The bytes come to this for the session.
abbrev pub IsOutcome : ℕ → List ℕ → Outcome → Type 0
IsOutcome session bytes (outcome.Stream stream) = IsReplayed session bytes stream.now
IsOutcome session bytes (outcome.Refused refusal) = IsRefused bytes refusal
IsOutcome session bytes outcome.Unfinished = IsUnfinished session bytes
