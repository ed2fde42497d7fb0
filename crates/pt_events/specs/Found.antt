-- What the bytes of a stream come to: the lines of its items, or those of the items before what is wrong with it.
use Rattle.std.specs.Prelude.{◌≡◌, ℕ, List, ◌++◌, ◌⊎◌, length, Err}
use Rattle.ep_defs.specs.declared.item.Item.{Item}
use Rattle.nt_blocks.specs.Ordered.{kinds_of, AreOrdered}
use Rattle.nt_blocks.specs.Verdict.{Good, verdict}
use Rattle.nt_check.specs.declared.checker.CheckKind.{CheckKind}
use Rattle.nt_read.specs.declared.fault.ReadFault.TheVariants.{Bad}
use Rattle.nt_read.specs.Answers.{items_of, end_answer}
use Rattle.pt_report.specs.declared.errors.Flaw.{Flaw}
use Rattle.pt_report.specs.declared.errors.Flaw.TheVariants as flaw
use Rattle.pt_report.specs.declared.errors.Refusal.{Refusal}
use Rattle.pt_report.specs.Found.{IsMisplaced}
use Rattle.pt_report.specs.Errors.{flaw_name, refusal_error}
use Rattle.pt_lines.specs.declared.form.Form.{Form}
use Rattle.pt_lines.specs.declared.form.Form.TheVariants as forms
use Rattle.pt_events.specs.Lines.{lines_of}
use Rattle.pt_lines.specs.Forms.{AreLines}
use Rattle.pt_lines.specs.Json.{error_object}
use Rattle.pt_lines.specs.Chromium.{error_tail}
use Rattle.pt_lines.specs.Page.{error_page}
use Rattle.pt_lines.specs.Around.{opened, tail_of}

-- The text is the lines of these items, in this form.
abbrev pub AreLinesOf : Form → List Item → List ℕ → Type 0
AreLinesOf form items text = AreLines form (lines_of (kinds_of items)) text

-- The bytes are a whole stream, its items stand where they can, and the text is their lines.
pub record IsListed (form : Form) (bytes text : List ℕ) : Type 0 where
  pub items : List Item
  pub found : verdict bytes ≡ Good items
  pub ordered : AreOrdered items
  pub lines : AreLinesOf form items text

-- The bytes are a whole stream, and the text is its lines with what stands around them.
abbrev pub IsTold : Form → List ℕ → List ℕ → Type 0
IsTold form bytes text = (lines : List ℕ) × IsListed form bytes lines × (text ≡ opened form lines ++ tail_of form)

-- The text is the lines of the items before the first that can't stand where it does.
abbrev pub StandsBefore : Form → List Item → ℕ → CheckKind → List ℕ → Type 0
StandsBefore form items at kind text = (is : IsMisplaced items at kind) × AreLinesOf form is.before text

-- The bytes are refused at this offset for this reason, and the text is the lines of the items before that place.
abbrev pub IsCut : Form → List ℕ → ℕ → Flaw → List ℕ → Type 0
IsCut form bytes at (flaw.Check kind) text = StandsBefore form (items_of (verdict bytes)) at kind text
IsCut form bytes at (flaw.Read kind) text =
    AreOrdered (items_of (verdict bytes)) × (end_answer (length bytes) (verdict bytes) ≡ Err (Bad at kind)) × AreLinesOf form (items_of (verdict bytes)) text

-- The text is the lines of the items so far, up to the first that can't stand where it does.
abbrev pub IsSoFar : Form → List ℕ → List ℕ → Type 0
IsSoFar form bytes text =
    (AreOrdered (items_of (verdict bytes)) × AreLinesOf form (items_of (verdict bytes)) text)
    ⊎ ((at : ℕ) × (kind : CheckKind) × StandsBefore form (items_of (verdict bytes)) at kind text)

-- What is said of a refusal, in this form: the error line of a report, an object with the same words, or this object behind
-- the others, and the end of the file or of the page.
abbrev pub error_line : Form → Refusal → List ℕ
error_line forms.Lines refusal = refusal_error refusal
error_line forms.Json refusal = error_object refusal.at (flaw_name refusal.flaw)
error_line forms.Chromium refusal = error_tail refusal.at (flaw_name refusal.flaw)
error_line forms.Page refusal = error_page refusal.at (flaw_name refusal.flaw)

-- The text is the lines before what is wrong with the bytes at this offset, behind what stands before them, and the error line.
pub record IsError (form : Form) (bytes : List ℕ) (at : ℕ) (text : List ℕ) : Type 0 where
  pub refusal : Refusal
  pub lines : List ℕ
  pub cut : IsCut form bytes refusal.at refusal.flaw lines
  pub place : at ≡ refusal.at
  pub text_is : text ≡ opened form lines ++ error_line form refusal
