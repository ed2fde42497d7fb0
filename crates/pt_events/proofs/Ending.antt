-- What the command comes to.
use Rattle.std.proofs.Common.{◌≡◌, ℕ, List, [], ◌++◌, inl, inr, refl, sym, subst, arith}
use Rattle.pt_io.specs.declared.sink.Sink.{Ghosts as Sink}
use Rattle.pt_io.specs.declared.source.Source.{Ghosts as Source}
use Rattle.pt_io.specs.Faults.{HasRisen}
use Rattle.pt_command.specs.declared.end.End.{End}
use Rattle.pt_command.specs.declared.end.End.TheVariants as ends
use Rattle.pt_command.specs.Input.{ReadWhole}
use Rattle.pt_command.specs.Says.{TookText, BrokeOff}
use Rattle.pt_report.specs.declared.errors.Flaw.{Flaw}
use Rattle.pt_report.specs.declared.errors.Flaw.TheVariants as flaw
use Rattle.pt_report.specs.declared.errors.Refusal.{Refusal}
use Rattle.pt_report.specs.Found.{IsWhole, IsFlaw}
use Rattle.pt_report.proofs.Whole.{flaw-not_whole}
use Rattle.pt_events.specs.Found.{IsListed, IsCut, IsError, error_line}
use Rattle.pt_lines.specs.declared.form.Form.{Form}
use Rattle.pt_lines.specs.Around.{opened, tail_of}
use Rattle.pt_events.specs.Command.{Lists, SoFar}
use Rattle.pt_command.specs.declared.limits.TheConstants.{PIECE_BYTES}
use Rattle.pt_events.specs.declared.reading.Reading.{Reading}
use Rattle.pt_events.specs.state.Read.{HasRead}
use Rattle.pt_events.proofs.Given.{gave-whole}
use Rattle.pt_events.proofs.Read.{so-far}
use Rattle.pt_events.proofs.Writes.{took-more, broke-more}

listed-whole : (form : Form) (bytes text : List ℕ) → IsListed form bytes text → IsWhole bytes
listed-whole form bytes text is = (is.items, is.found, is.ordered)

cut-flaw : (form : Form) (bytes : List ℕ) (at : ℕ) (flaw : Flaw) (text : List ℕ) → IsCut form bytes at flaw text → IsFlaw bytes at flaw
cut-flaw form bytes at (flaw.Check kind) text cut = cut.0
cut-flaw form bytes at (flaw.Read kind) text cut = (cut.0, cut.1)

cut-not_whole : (form : Form) (bytes : List ℕ) (at : ℕ) (flaw : Flaw) (text : List ℕ) → IsCut form bytes at flaw text → IsWhole bytes → ⊥
cut-not_whole form bytes at flaw text cut whole = flaw-not_whole bytes at flaw (cut-flaw form bytes at flaw text cut) whole

module _ {I O : Type 0} (source : Source I) (sink : Sink O) (form : Form) (input_old input_new : I) (output_old output_mid output_new : O) where
  -- Nothing is wrong with the whole input, and what stands behind its lines was said.
  pub done : (bytes lines : List ℕ) (result : End) → ReadWhole source input_old input_new bytes → source.read_faults input_new ≡ source.read_faults input_old
      → sink.tells_taken output_mid ≡ sink.tells_taken output_old → TookText sink output_old output_mid (opened form lines) → IsListed form bytes lines
      → result ≡ ends.Done → TookText sink output_mid output_new (tail_of form)
      → Lists source sink form input_old input_new output_old output_new result
  done bytes lines result read sound told took listed is put =
      let all = opened form lines ++ tail_of form in
      let taken : TookText sink output_old output_new all = took-more sink output_old output_mid output_new (opened form lines) (tail_of form) told took put in
      record {
        done = λ _. (all, record { bytes = bytes; read = read; is_text = (lines, listed, refl) }, taken.took);
        refused = λ at other. absurd (cc);
        unread = λ other. absurd (cc);
        memory = λ other. absurd (cc);
        written_part = λ other. absurd (cc);
        causes = record { read_fault = λ other. absurd (cc); all_read = λ _. sound; write_fault = λ other. absurd (cc); all_written = λ _. taken.sound };
        ends = inl is;
        whole = λ tells whole at other. cc;
        not_whole = λ tells none _. none (subst IsWhole (sym (read.told tells).0) (listed-whole form bytes lines listed));
      }

  -- It was not written whole.
  pub undone : (bytes lines : List ℕ) (result : End) → ReadWhole source input_old input_new bytes → source.read_faults input_new ≡ source.read_faults input_old
      → sink.tells_taken output_mid ≡ sink.tells_taken output_old → TookText sink output_old output_mid (opened form lines) → IsListed form bytes lines
      → result ≡ ends.WriteFault → BrokeOff sink output_mid output_new (tail_of form)
      → Lists source sink form input_old input_new output_old output_new result
  undone bytes lines result read sound told took listed is put =
      let all = opened form lines ++ tail_of form in
      let broken : BrokeOff sink output_old output_new all = broke-more sink output_old output_mid output_new (opened form lines) (tail_of form) told took put in
      record {
        done = λ other. absurd (cc);
        refused = λ at other. absurd (cc);
        unread = λ other. absurd (cc);
        memory = λ other. absurd (cc);
        written_part = λ _. (all, inr (inl (record { bytes = bytes; read = read; is_text = (lines, listed, refl) })), broken.part);
        causes = record { read_fault = λ other. absurd (cc); all_read = λ _. sound; write_fault = λ _. broken.fault; all_written = λ other. absurd (other is) };
        ends = inr (inr (inr (inl is)));
        whole = λ tells whole at other. cc;
        not_whole = λ tells none other. cc;
      }

  -- An error line follows.
  pub refused : (bytes lines : List ℕ) (result : End) (refusal : Refusal) → ReadWhole source input_old input_new bytes → source.read_faults input_new ≡ source.read_faults input_old
      → sink.tells_taken output_mid ≡ sink.tells_taken output_old → TookText sink output_old output_mid (opened form lines) → IsCut form bytes refusal.at refusal.flaw lines
      → result ≡ ends.Refused refusal.at → TookText sink output_mid output_new (error_line form refusal)
      → Lists source sink form input_old input_new output_old output_new result
  refused bytes lines result refusal read sound told took cut is put =
      let all = opened form lines ++ error_line form refusal in
      let taken : TookText sink output_old output_new all = took-more sink output_old output_mid output_new (opened form lines) (error_line form refusal) told took put in
      let error : IsError form bytes refusal.at all = record { refusal = refusal; lines = lines; cut = cut; place = refl; text_is = refl } in
      record {
        done = λ other. absurd (cc);
        refused = λ at other.
            let same : refusal.at ≡ at = cc in
            (all, record { bytes = bytes; read = read; is_text = subst (λ (a : ℕ). IsError form bytes a all) same error }, taken.took);
        unread = λ other. absurd (cc);
        memory = λ other. absurd (cc);
        written_part = λ other. absurd (cc);
        causes = record { read_fault = λ other. absurd (cc); all_read = λ _. sound; write_fault = λ other. absurd (cc); all_written = λ _. taken.sound };
        ends = inr (inl (refusal.at, is));
        whole = λ tells whole at _. cut-not_whole form bytes refusal.at refusal.flaw lines cut (subst IsWhole (read.told tells).0 whole);
        not_whole = λ tells none other. cc;
      }

  -- The error line was not written whole.
  pub broke : (bytes lines : List ℕ) (result : End) (refusal : Refusal) → ReadWhole source input_old input_new bytes → source.read_faults input_new ≡ source.read_faults input_old
      → sink.tells_taken output_mid ≡ sink.tells_taken output_old → TookText sink output_old output_mid (opened form lines) → IsCut form bytes refusal.at refusal.flaw lines
      → result ≡ ends.WriteFault → BrokeOff sink output_mid output_new (error_line form refusal)
      → Lists source sink form input_old input_new output_old output_new result
  broke bytes lines result refusal read sound told took cut is put =
      let all = opened form lines ++ error_line form refusal in
      let broken : BrokeOff sink output_old output_new all = broke-more sink output_old output_mid output_new (opened form lines) (error_line form refusal) told took put in
      let error : IsError form bytes refusal.at all = record { refusal = refusal; lines = lines; cut = cut; place = refl; text_is = refl } in
      record {
        done = λ other. absurd (cc);
        refused = λ at other. absurd (cc);
        unread = λ other. absurd (cc);
        memory = λ other. absurd (cc);
        written_part = λ _. (all, inr (inr (refusal.at, record { bytes = bytes; read = read; is_text = error })), broken.part);
        causes = record { read_fault = λ other. absurd (cc); all_read = λ _. sound; write_fault = λ _. broken.fault; all_written = λ other. absurd (other is) };
        ends = inr (inr (inr (inl is)));
        whole = λ tells whole at other. cc;
        not_whole = λ tells none other. cc;
      }

  -- There was no memory at the end, or before it.
  pub spent : (text : List ℕ) (result : End) → SoFar source form input_old input_new PIECE_BYTES text → source.read_faults input_new ≡ source.read_faults input_old
      → TookText sink output_old output_new text → result ≡ ends.OutOfMemory
      → Lists source sink form input_old input_new output_old output_new result
  spent text result so_far sound taken is =
      record {
        done = λ other. absurd (cc);
        refused = λ at other. absurd (cc);
        unread = λ other. absurd (cc);
        memory = λ _. inr (text, so_far, taken.took);
        written_part = λ other. absurd (cc);
        causes = record { read_fault = λ other. absurd (cc); all_read = λ _. sound; write_fault = λ other. absurd (cc); all_written = λ _. taken.sound };
        ends = inr (inr (inr (inr is)));
        whole = λ tells whole at other. cc;
        not_whole = λ tells none other. cc;
      }

  -- There was none for the error line.
  pub spent-end : (bytes lines : List ℕ) (reading : Reading) (result : End) → HasRead form bytes lines reading → ReadWhole source input_old input_new bytes
      → source.read_faults input_new ≡ source.read_faults input_old → TookText sink output_old output_mid (opened form lines) → result ≡ ends.OutOfMemory → output_new ≡ output_mid
      → Lists source sink form input_old input_new output_old output_new result
  spent-end bytes lines reading result read whole sound took is same =
      spent (opened form lines) result
      (record {
        bytes = bytes;
        last = [];
        gave = gave-whole source input_old input_new bytes whole;
        few = omega arith;
        lines = lines;
        is_lines = so-far form bytes lines reading read;
        text_is = refl;
      })
      sound (subst (λ (o : O). TookText sink output_old o (opened form lines)) (sym same) took) is

  -- A read failed.
  pub unread : (text : List ℕ) (result : End) → SoFar source form input_old input_new 0 text → HasRisen (source.read_faults input_old) (source.read_faults input_new)
      → TookText sink output_old output_new text → result ≡ ends.ReadFault
      → Lists source sink form input_old input_new output_old output_new result
  unread text result so_far risen taken is =
      record {
        done = λ other. absurd (cc);
        refused = λ at other. absurd (cc);
        unread = λ _. (text, so_far, taken.took);
        memory = λ other. absurd (cc);
        written_part = λ other. absurd (cc);
        causes = record { read_fault = λ _. risen; all_read = λ other. absurd (other is); write_fault = λ other. absurd (cc); all_written = λ _. taken.sound };
        ends = inr (inr (inl is));
        whole = λ tells whole at other. cc;
        not_whole = λ tells none other. cc;
      }

  -- A write of lines failed.
  pub unwritten : (text : List ℕ) (result : End) → SoFar source form input_old input_new 0 text → source.read_faults input_new ≡ source.read_faults input_old
      → BrokeOff sink output_old output_new text → result ≡ ends.WriteFault
      → Lists source sink form input_old input_new output_old output_new result
  unwritten text result so_far sound broken is =
      record {
        done = λ other. absurd (cc);
        refused = λ at other. absurd (cc);
        unread = λ other. absurd (cc);
        memory = λ other. absurd (cc);
        written_part = λ _. (text, inl so_far, broken.part);
        causes = record { read_fault = λ other. absurd (cc); all_read = λ _. sound; write_fault = λ _. broken.fault; all_written = λ other. absurd (other is) };
        ends = inr (inr (inr (inl is)));
        whole = λ tells whole at other. cc;
        not_whole = λ tells none other. cc;
      }
