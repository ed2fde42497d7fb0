-- How the program ended, in numbers.
use Rattle.std.specs.Prelude.{◌≡◌, ℕ}
use Rattle.pt_command.specs.declared.end.End.{End}
use Rattle.pt_command.specs.Ends.{status_of, code_of, at_of}
use Rattle.pt_cli.specs.declared.ends.Finished.{Finished}

-- These are the numbers of the end.
pub record Ended (end : End) (status code at : ℕ) : Type 0 where
  pub status_is : status ≡ status_of end
  pub code_is : code ≡ code_of end
  pub at_is : at ≡ at_of end

-- The program ended with the numbers of an end for which this holds. They tell ends apart.
abbrev pub EndsSo : {L : Type 0} → Finished L → (End → Type 0) → Type 0
EndsSo finished Holds = (end : End) × Ended end finished.status finished.code finished.at × Holds end

-- These are the status and the offset of an end for which this holds.
abbrev pub PlainEndsSo : ℕ → ℕ → (End → Type 0) → Type 0
PlainEndsSo status at Holds = (end : End) × (status ≡ status_of end) × (at ≡ at_of end) × Holds end
