-- What the bytes of a stream come to: a report, or why there is none.
use Rattle.std.specs.Prelude.{◌≡◌, ℕ, List, [], ◌∷◌, ◌++◌, length, Err}
use Rattle.ep_defs.specs.declared.item.Item.{Item}
use Rattle.ep_defs.specs.Entry.{Entry}
use Rattle.nt_blocks.specs.Ordered.{no_names, told_after, kinds_of, Tell, AreOrdered}
use Rattle.nt_blocks.specs.Verdict.{Good, verdict}
use Rattle.nt_check.specs.declared.checker.CheckKind.{CheckKind}
use Rattle.nt_check.specs.Faults.{disorder_of}
use Rattle.nt_read.specs.declared.fault.ReadFault.TheVariants.{Bad}
use Rattle.nt_read.specs.Answers.{items_of, end_answer}
use Rattle.pt_report.specs.Report.{report_text}
use Rattle.pt_report.specs.declared.errors.Flaw.{Flaw}
use Rattle.pt_report.specs.declared.errors.Flaw.TheVariants as flaw
use Rattle.pt_report.specs.declared.errors.Refusal.{Refusal}

-- The bytes are a whole stream, and its items stand where they can.
abbrev pub IsWhole : List ℕ → Type 0
IsWhole bytes = (items : List Item) × (verdict bytes ≡ Good items) × AreOrdered items

-- The text is the report of the stream's items.
pub record IsReported (bytes text : List ℕ) : Type 0 where
  pub items : List Item
  pub found : verdict bytes ≡ Good items
  pub entries : List Entry
  pub told : Tell items entries
  pub text_is : text ≡ report_text (kinds_of items) entries

-- The item at this offset is the first that can't stand where it does.
pub record IsMisplaced (items : List Item) (at : ℕ) (kind : CheckKind) : Type 0 where
  pub before : List Item
  pub item : Item
  pub after : List Item
  pub split : items ≡ before ++ item ∷ after
  pub ordered : AreOrdered before
  pub fault : told_after no_names (kinds_of (before ++ item ∷ [])) ≡ Err (disorder_of kind)
  pub place : at ≡ item.at

-- Why the bytes are refused. An item that can't stand where it does goes before what stopped the reading.
abbrev pub IsFlaw : List ℕ → ℕ → Flaw → Type 0
IsFlaw bytes at (flaw.Check kind) = IsMisplaced (items_of (verdict bytes)) at kind
IsFlaw bytes at (flaw.Read kind) = AreOrdered (items_of (verdict bytes)) × (end_answer (length bytes) (verdict bytes) ≡ Err (Bad at kind))

-- The bytes are refused at this offset for this reason.
abbrev pub IsRefused : List ℕ → Refusal → Type 0
IsRefused bytes refusal = IsFlaw bytes refusal.at refusal.flaw
