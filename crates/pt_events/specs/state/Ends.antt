-- What is said at the end of an input.
use Rattle.std.specs.Prelude.{◌≡◌, ℕ, ◌⊎◌, List}
use Rattle.pt_io.specs.declared.sink.Sink.{Ghosts as Sink}
use Rattle.pt_command.specs.declared.end.End.{End}
use Rattle.pt_command.specs.declared.end.End.TheVariants as ends
use Rattle.pt_command.specs.Says.{Says}
use Rattle.pt_report.specs.declared.errors.Refusal.{Refusal}
use Rattle.pt_lines.specs.declared.form.Form.{Form}
use Rattle.pt_lines.specs.Around.{tail_of}
use Rattle.pt_events.specs.Found.{IsListed, IsCut, error_line}

-- Nothing is wrong with these bytes, whose lines are these, and what stands behind the lines is said; or an error line is; or
-- there was no memory for it, and nothing was written.
abbrev pub EndsBytes : {O : Type 0} → Sink O → Form → O → O → List ℕ → List ℕ → End → Type 0
EndsBytes sink form old new bytes lines end =
    (IsListed form bytes lines × Says sink old new (tail_of form) ends.Done end)
    ⊎ ((refusal : Refusal) × IsCut form bytes refusal.at refusal.flaw lines × Says sink old new (error_line form refusal) (ends.Refused refusal.at) end)
    ⊎ ((end ≡ ends.OutOfMemory) × (new ≡ old))
