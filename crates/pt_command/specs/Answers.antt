-- What a command comes to that reads its whole input before it writes (this project's profile).
use Rattle.std.specs.Prelude.{◌≡◌, ◌≢◌, ℕ, ◌⊎◌, List}
use Rattle.pt_io.specs.declared.sink.Sink.{Ghosts as Sink}
use Rattle.pt_io.specs.declared.source.Source.{Ghosts as Source}
use Rattle.pt_io.specs.Faults.{HasRisen}
use Rattle.pt_io.specs.Taken.{TookAll, TookPart}
use Rattle.pt_command.specs.declared.end.End.{End}
use Rattle.pt_command.specs.declared.end.End.TheVariants as ends
use Rattle.pt_command.specs.Input.{ReadWhole}

-- A fault comes only from the object that was handed in, in this call; where there is none, its count is as before.
pub record HasCauses {I O : Type 0} (source : Source I) (sink : Sink O) (input_old input_new : I) (output_old output_new : O) (end : End) : Type 0 where
  pub read_fault : end ≡ ends.ReadFault → HasRisen (source.read_faults input_old) (source.read_faults input_new)
  pub all_read : end ≢ ends.ReadFault → source.read_faults input_new ≡ source.read_faults input_old
  pub write_fault : end ≡ ends.WriteFault → HasRisen (sink.write_faults output_old) (sink.write_faults output_new)
  pub all_written : end ≢ ends.WriteFault → sink.write_faults output_new ≡ sink.write_faults output_old

-- The input was read to its end, and this is the text for its bytes.
pub record Answered {I : Type 0} (source : Source I) (input_old input_new : I) (IsText : List ℕ → List ℕ → Type 0) (text : List ℕ) : Type 0 where
  pub bytes : List ℕ
  pub read : ReadWhole source input_old input_new bytes
  pub is_text : IsText bytes text

-- The text is the answer to the bytes, and the command ends so where it is written.
abbrev pub IsAnswer : (List ℕ → List ℕ → Type 0) → (List ℕ → ℕ → List ℕ → Type 0) → List ℕ → List ℕ → End → Type 0
IsAnswer IsDone IsError bytes text end =
    (IsDone bytes text × (end ≡ ends.Done)) ⊎ ((at : ℕ) × IsError bytes at text × (end ≡ ends.Refused at))

-- The command, whose text for the bytes of an input is `IsDone`, or `IsError` with an offset, ended so. Nothing is written before the input was read.
pub record Answers {I O : Type 0} (source : Source I) (sink : Sink O) (IsDone : List ℕ → List ℕ → Type 0) (IsError : List ℕ → ℕ → List ℕ → Type 0)
    (input_old input_new : I) (output_old output_new : O) (end : End) : Type 0 where
  pub done : end ≡ ends.Done → (text : List ℕ) × Answered source input_old input_new IsDone text × TookAll sink.tells_taken sink.taken output_old output_new text
  -- the output took one error line
  pub refused : (at : ℕ) → end ≡ ends.Refused at → (text : List ℕ)
      × Answered source input_old input_new (λ bytes text. IsError bytes at text) text × TookAll sink.tells_taken sink.taken output_old output_new text
  -- it took a part of one of them
  pub written_part : end ≡ ends.WriteFault → (text : List ℕ)
      × Answered source input_old input_new (λ bytes text. IsDone bytes text ⊎ ((at : ℕ) × IsError bytes at text)) text
      × TookPart sink.tells_taken sink.taken output_old output_new text
  pub unread : end ≡ ends.ReadFault → output_new ≡ output_old
  pub memory : end ≡ ends.OutOfMemory → output_new ≡ output_old
  pub causes : HasCauses source sink input_old input_new output_old output_new end
  pub ends : (end ≡ ends.Done) ⊎ ((at : ℕ) × (end ≡ ends.Refused at)) ⊎ (end ≡ ends.ReadFault) ⊎ (end ≡ ends.WriteFault) ⊎ (end ≡ ends.OutOfMemory)
