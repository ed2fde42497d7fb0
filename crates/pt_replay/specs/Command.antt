-- What the command `replay` comes to (this project's profile).
use Rattle.std.specs.Prelude.{◌≡◌, ◌≢◌, ℕ, List, IsTrue}
use Rattle.pt_io.specs.declared.sink.Sink.{Ghosts as Sink}
use Rattle.pt_io.specs.declared.source.Source.{Ghosts as Source}
use Rattle.pt_command.specs.declared.end.End.{End}
use Rattle.pt_command.specs.declared.end.End.TheVariants as ends
use Rattle.pt_command.specs.Answers.{Answers}
use Rattle.pt_replay.specs.declared.errors.Refusal.{Refusal}
use Rattle.pt_replay.specs.Schedule.{IsRefused}
use Rattle.pt_replay.specs.Replay.{IsReplayed, IsUnfinished, Finishes, IsError}

-- The text is the error line for the bytes. Lines are named in the text, so there is no offset.
abbrev pub IsErrorAt : ℕ → List ℕ → ℕ → List ℕ → Type 0
IsErrorAt session bytes at text = (at ≡ 0) × IsError session bytes text

-- The command ended so.
pub record Replays {I O : Type 0} (source : Source I) (sink : Sink O) (session : ℕ) (input_old input_new : I) (output_old output_new : O) (end : End) : Type 0 where
  -- the output took the stream of the session after the schedule in the input, or the line that says why there is none
  pub answers : Answers source sink (IsReplayed session) (IsErrorAt session) input_old input_new output_old output_new end
  -- an input that tells its bytes is judged by them, unless something fails
  pub refused_exactly : (refusal : Refusal) → IsTrue (source.tells_given input_old) → IsRefused (source.left input_old) refusal → end ≢ ends.Done
  pub unfinished : IsTrue (source.tells_given input_old) → IsUnfinished session (source.left input_old) → end ≢ ends.Done
  pub taken : IsTrue (source.tells_given input_old) → Finishes session (source.left input_old) → (at : ℕ) → end ≢ ends.Refused at
