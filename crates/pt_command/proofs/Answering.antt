-- What a command that reads its whole input comes to.
use Rattle.std.proofs.Common.{◌≡◌, ℕ, List, ◌⊎◌, inl, inr, ap, subst, ◌∙◌}
use Rattle.std.specs.Prelude.{◌≢◌}
use Rattle.pt_io.specs.declared.sink.Sink.{Ghosts as Sink}
use Rattle.pt_io.specs.declared.source.Source.{Ghosts as Source}
use Rattle.pt_io.specs.Faults.{HasRisen}
use Rattle.pt_command.specs.declared.end.End.{End}
use Rattle.pt_command.specs.declared.end.End.TheVariants as ends
use Rattle.pt_command.specs.Input.{ReadWhole}
use Rattle.pt_command.specs.Says.{SaysOne}
use Rattle.pt_command.specs.Answers.{Answers, IsAnswer}

-- The answer to the bytes of the whole input was said.
pub answered : {I O : Type 0} (source : Source I) (sink : Sink O) (IsDone : List ℕ → List ℕ → Type 0) (IsError : List ℕ → ℕ → List ℕ → Type 0)
    (input_old input_new : I) (output_old output_new : O) (bytes : List ℕ) (result : End)
    → ReadWhole source input_old input_new bytes → source.read_faults input_new ≡ source.read_faults input_old
    → SaysOne sink output_old output_new (IsAnswer IsDone IsError bytes) result
    → Answers source sink IsDone IsError input_old input_new output_old output_new result
answered source sink IsDone IsError input_old input_new output_old output_new bytes result read sound (inr none) =
    let is : result ≡ ends.OutOfMemory = none.0 in
    record {
      done = λ other. absurd (cc);
      refused = λ at other. absurd (cc);
      written_part = λ other. absurd (cc);
      unread = λ other. absurd (cc);
      memory = λ _. none.1;
      causes = record { read_fault = λ other. absurd (cc); all_read = λ _. sound; write_fault = λ other. absurd (cc); all_written = λ _. ap sink.write_faults none.1 };
      ends = inr (inr (inr (inr is)));
    }
answered source sink IsDone IsError input_old input_new output_old output_new bytes result read sound (inl (text, end, inl answer, inl said)) =
    let is : result ≡ ends.Done = said.0 ∙ answer.1 in
    record {
      done = λ _. (text, record { bytes = bytes; read = read; is_text = answer.0 }, said.1.took);
      refused = λ at other. absurd (cc);
      written_part = λ other. absurd (cc);
      unread = λ other. absurd (cc);
      memory = λ other. absurd (cc);
      causes = record { read_fault = λ other. absurd (cc); all_read = λ _. sound; write_fault = λ other. absurd (cc); all_written = λ _. said.1.sound };
      ends = inl is;
    }
answered source sink IsDone IsError input_old input_new output_old output_new bytes result read sound (inl (text, end, inr answer, inl said)) =
    let is : result ≡ ends.Refused answer.0 = said.0 ∙ answer.2 in
    record {
      done = λ other. absurd (cc);
      refused = λ at other.
          let same : answer.0 ≡ at = cc in
          (text, record { bytes = bytes; read = read; is_text = subst (λ (a : ℕ). IsError bytes a text) same answer.1 }, said.1.took);
      written_part = λ other. absurd (cc);
      unread = λ other. absurd (cc);
      memory = λ other. absurd (cc);
      causes = record { read_fault = λ other. absurd (cc); all_read = λ _. sound; write_fault = λ other. absurd (cc); all_written = λ _. said.1.sound };
      ends = inr (inl (answer.0, is));
    }
answered source sink IsDone IsError input_old input_new output_old output_new bytes result read sound (inl (text, end, answer, inr broke)) =
    let is : result ≡ ends.WriteFault = broke.0 in
    let one : IsDone bytes text ⊎ ((at : ℕ) × IsError bytes at text) =
    elim answer [
      | inl done ↦ inl done.0
      | inr error ↦ inr (error.0, error.1)
    ] in
    record {
      done = λ other. absurd (cc);
      refused = λ at other. absurd (cc);
      written_part = λ _. (text, record { bytes = bytes; read = read; is_text = one }, broke.1.part);
      unread = λ other. absurd (cc);
      memory = λ other. absurd (cc);
      causes = record { read_fault = λ other. absurd (cc); all_read = λ _. sound; write_fault = λ _. broke.1.fault; all_written = λ other. absurd (other is) };
      ends = inr (inr (inr (inl is)));
    }

-- The input was not read to its end, and nothing was written.
pub unanswered : {I O : Type 0} (source : Source I) (sink : Sink O) (IsDone : List ℕ → List ℕ → Type 0) (IsError : List ℕ → ℕ → List ℕ → Type 0)
    (input_old input_new : I) (output_old output_new : O) (result : End)
    → (result ≡ ends.ReadFault) ⊎ (result ≡ ends.OutOfMemory)
    → (result ≡ ends.ReadFault → HasRisen (source.read_faults input_old) (source.read_faults input_new))
    → (result ≢ ends.ReadFault → source.read_faults input_new ≡ source.read_faults input_old)
    → output_new ≡ output_old
    → Answers source sink IsDone IsError input_old input_new output_old output_new result
unanswered source sink IsDone IsError input_old input_new output_old output_new result (inl is) fault sound same =
    record {
      done = λ other. absurd (cc);
      refused = λ at other. absurd (cc);
      written_part = λ other. absurd (cc);
      unread = λ _. same;
      memory = λ other. absurd (cc);
      causes = record { read_fault = fault; all_read = sound; write_fault = λ other. absurd (cc); all_written = λ _. ap sink.write_faults same };
      ends = inr (inr (inl is));
    }
unanswered source sink IsDone IsError input_old input_new output_old output_new result (inr is) fault sound same =
    record {
      done = λ other. absurd (cc);
      refused = λ at other. absurd (cc);
      written_part = λ other. absurd (cc);
      unread = λ other. absurd (cc);
      memory = λ _. same;
      causes = record { read_fault = fault; all_read = sound; write_fault = λ other. absurd (cc); all_written = λ _. ap sink.write_faults same };
      ends = inr (inr (inr (inr is)));
    }

-- Neither of these ends refuses or is done.
pub no-refusal : (end : End) (at : ℕ) → (end ≡ ends.ReadFault) ⊎ (end ≡ ends.OutOfMemory) → end ≡ ends.Refused at → ⊥
no-refusal end at (inl is) other = cc
no-refusal end at (inr is) other = cc

pub no-done : (end : End) → (end ≡ ends.ReadFault) ⊎ (end ≡ ends.OutOfMemory) → end ≡ ends.Done → ⊥
no-done end (inl is) other = cc
no-done end (inr is) other = cc
