-- What the commands `events` and `convert` come to (this project's profile).
use Rattle.std.specs.Prelude.{◌≡◌, ◌≢◌, ◌≤◌, ℕ, ◌+◌, ◌++◌, ◌⊎◌, List, length, IsTrue}
use Rattle.pt_io.specs.declared.sink.Sink.{Ghosts as Sink}
use Rattle.pt_io.specs.declared.source.Source.{Ghosts as Source}
use Rattle.pt_io.specs.Taken.{TookAll, TookPart}
use Rattle.pt_command.specs.declared.end.End.{End}
use Rattle.pt_command.specs.declared.end.End.TheVariants as ends
use Rattle.pt_command.specs.declared.limits.TheConstants.{PIECE_BYTES}
use Rattle.pt_command.specs.Answers.{Answered, HasCauses}
use Rattle.pt_report.specs.Found.{IsWhole}
use Rattle.pt_lines.specs.declared.form.Form.{Form}
use Rattle.pt_events.specs.Found.{IsTold, IsSoFar, IsError}
use Rattle.pt_lines.specs.Around.{opened}

-- The input gave these bytes: where it tells them, they are the first of those that it had left.
pub record Gave {I : Type 0} (source : Source I) (old new : I) (bytes : List ℕ) : Type 0 where
  pub given : IsTrue (source.tells_given old) → source.given new ≡ source.given old ++ bytes
  pub left : IsTrue (source.tells_given old) → source.left old ≡ bytes ++ source.left new
  pub counted : source.may_give new + length bytes ≡ source.may_give old

-- The input was read so far, and this is the text for its bytes but for at most so many of the last: their lines behind what
-- stands before them.
pub record SoFar {I : Type 0} (source : Source I) (form : Form) (old new : I) (most : ℕ) (text : List ℕ) : Type 0 where
  pub bytes : List ℕ
  pub last : List ℕ
  pub gave : Gave source old new (bytes ++ last)
  pub few : length last ≤ most
  pub lines : List ℕ
  pub is_lines : IsSoFar form bytes lines
  pub text_is : text ≡ opened form lines

-- The text is what the output takes where nothing fails: the lines of what was read, and after them what stands behind them
-- where nothing is wrong with the whole input, or the error line.
abbrev pub Wanted : {I : Type 0} → Source I → Form → I → I → List ℕ → Type 0
Wanted source form old new text =
    SoFar source form old new 0 text
    ⊎ Answered source old new (IsTold form) text
    ⊎ ((at : ℕ) × Answered source old new (λ bytes text. IsError form bytes at text) text)

-- Nothing was begun: the input gave nothing, and the output took nothing.
abbrev pub IsUnbegun : {I O : Type 0} → I → I → O → O → Type 0
IsUnbegun input_old input_new output_old output_new = (input_new ≡ input_old) × (output_new ≡ output_old)

-- The command, whose lines are to stand in this form, ended so.
pub record Lists {I O : Type 0} (source : Source I) (sink : Sink O) (form : Form) (input_old input_new : I) (output_old output_new : O) (end : End) : Type 0 where
  -- the output took the lines of all items, with what stands around them
  pub done : end ≡ ends.Done → (text : List ℕ) × Answered source input_old input_new (IsTold form) text × TookAll sink.tells_taken sink.taken output_old output_new text
  -- the output took the lines of what stands before, and the error line
  pub refused : (at : ℕ) → end ≡ ends.Refused at → (text : List ℕ)
      × Answered source input_old input_new (λ bytes text. IsError form bytes at text) text × TookAll sink.tells_taken sink.taken output_old output_new text
  -- it took the lines of what was read before the fault, or a part of them where the fault is its own
  pub unread : end ≡ ends.ReadFault → (text : List ℕ) × SoFar source form input_old input_new 0 text × TookAll sink.tells_taken sink.taken output_old output_new text
  pub written_part : end ≡ ends.WriteFault → (text : List ℕ) × Wanted source form input_old input_new text × TookPart sink.tells_taken sink.taken output_old output_new text
  -- it took the lines of what was read before the last piece, where memory was missing for its own, or nothing was begun
  pub memory : end ≡ ends.OutOfMemory → IsUnbegun input_old input_new output_old output_new
      ⊎ ((text : List ℕ) × SoFar source form input_old input_new PIECE_BYTES text × TookAll sink.tells_taken sink.taken output_old output_new text)
  pub causes : HasCauses source sink input_old input_new output_old output_new end
  -- an input that tells its bytes is judged by them, unless something fails
  pub whole : IsTrue (source.tells_given input_old) → IsWhole (source.left input_old) → (at : ℕ) → end ≢ ends.Refused at
  pub not_whole : IsTrue (source.tells_given input_old) → (IsWhole (source.left input_old) → ⊥) → end ≢ ends.Done
  pub ends : (end ≡ ends.Done) ⊎ ((at : ℕ) × (end ≡ ends.Refused at)) ⊎ (end ≡ ends.ReadFault) ⊎ (end ≡ ends.WriteFault) ⊎ (end ≡ ends.OutOfMemory)
