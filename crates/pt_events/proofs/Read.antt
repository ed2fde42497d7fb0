-- What was read of a stream, and what it comes to.
use Rattle.std.proofs.Common.{◌≡◌, ℕ, List, length, subst, inl, inr}
use Rattle.std.specs.Prelude.{Option, Some, None, Ok, Err}
use Rattle.nt_blocks.specs.Verdict.{verdict}
use Rattle.nt_read.specs.declared.fault.ReadKind.{ReadKind}
use Rattle.nt_read.specs.declared.fault.ReadFault.TheVariants as end
use Rattle.nt_read.specs.Answers.{items_of, end_answer}
use Rattle.pt_report.specs.declared.errors.Flaw.TheVariants as flaw
use Rattle.pt_report.proofs.Whole.{good-verdict}
use Rattle.pt_lines.specs.declared.form.Form.{Form}
use Rattle.pt_events.specs.declared.reading.Misplaced.{Misplaced}
use Rattle.pt_events.specs.declared.reading.Reading.{Reading}
use Rattle.pt_events.specs.Found.{IsListed, IsCut, IsSoFar}
use Rattle.pt_events.specs.state.Read.{IsChecked, HasRead}
use Rattle.pt_events.proofs.Placed.{all-listed}

-- A stream that the reader found whole, and whose items could all stand.
pub listed-whole : (form : Form) (bytes text : List ℕ) (reading : Reading) → HasRead form bytes text reading → reading.misplaced ≡ None → end_answer (length bytes) (verdict bytes) ≡ Ok tt → IsListed form bytes text
listed-whole form bytes text reading read none whole =
    let listed = all-listed form (items_of (verdict bytes)) text reading.listing reading.misplaced none read.checked in
    record {
      items = items_of (verdict bytes);
      found = good-verdict (length bytes) (verdict bytes) whole;
      ordered = listed.0.ordered;
      lines = listed.1;
    }

-- One that the reader refused.
pub cut-read : (form : Form) (bytes text : List ℕ) (reading : Reading) (at : ℕ) (kind : ReadKind) → HasRead form bytes text reading → reading.misplaced ≡ None → end_answer (length bytes) (verdict bytes) ≡ Err (end.Bad at kind) → IsCut form bytes at (flaw.Read kind) text
cut-read form bytes text reading at kind read none refused =
    let listed = all-listed form (items_of (verdict bytes)) text reading.listing reading.misplaced none read.checked in (
      listed.0.ordered,
      refused,
      listed.1,
    )

-- One with an item that can't stand where it does.
pub cut-item : (form : Form) (bytes text : List ℕ) (reading : Reading) (misplaced : Misplaced) → HasRead form bytes text reading → reading.misplaced ≡ Some misplaced → IsCut form bytes misplaced.at (flaw.Check misplaced.kind) text
cut-item form bytes text reading misplaced read there = subst (IsChecked form (items_of (verdict bytes)) text reading.listing) there read.checked

-- What was read so far.
pub so-far : (form : Form) (bytes text : List ℕ) (reading : Reading) → HasRead form bytes text reading → IsSoFar form bytes text
so-far form bytes text reading read = either reading.misplaced read.checked
  where
    either : (misplaced : Option Misplaced) → IsChecked form (items_of (verdict bytes)) text reading.listing misplaced → IsSoFar form bytes text
    either None checked = inl (checked.0.ordered, checked.1)
    either (Some misplaced) checked = inr (misplaced.at, misplaced.kind, checked)
