-- What the command `report` comes to (this project's profile).
use Rattle.std.specs.Prelude.{◌≡◌, ◌≢◌, ℕ, List, IsTrue}
use Rattle.pt_io.specs.declared.sink.Sink.{Ghosts as Sink}
use Rattle.pt_io.specs.declared.source.Source.{Ghosts as Source}
use Rattle.pt_command.specs.declared.end.End.{End}
use Rattle.pt_command.specs.declared.end.End.TheVariants as ends
use Rattle.pt_command.specs.Answers.{Answers}
use Rattle.pt_report.specs.declared.errors.Refusal.{Refusal}
use Rattle.pt_report.specs.Errors.{refusal_error}
use Rattle.pt_report.specs.Found.{IsWhole, IsReported, IsRefused}

-- The text is the error line of what is wrong with the bytes, at this offset.
abbrev pub IsError : List ℕ → ℕ → List ℕ → Type 0
IsError bytes at text = (refusal : Refusal) × IsRefused bytes refusal × (at ≡ refusal.at) × (text ≡ refusal_error refusal)

-- The command ended so.
pub record Reports {I O : Type 0} (source : Source I) (sink : Sink O) (input_old input_new : I) (output_old output_new : O) (end : End) : Type 0 where
  -- the output took the report of the input's bytes, or the error line of what is wrong with them
  pub answers : Answers source sink IsReported IsError input_old input_new output_old output_new end
  -- an input that tells its bytes is judged by them, unless something fails
  pub whole : IsTrue (source.tells_given input_old) → IsWhole (source.left input_old) → (at : ℕ) → end ≢ ends.Refused at
  pub not_whole : IsTrue (source.tells_given input_old) → (IsWhole (source.left input_old) → ⊥) → end ≢ ends.Done
