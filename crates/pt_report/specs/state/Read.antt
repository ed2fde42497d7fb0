-- What was read of a stream.
use Rattle.std.specs.Prelude.{ℕ, List, Option, Some, None, Result}
use Rattle.ep_defs.specs.declared.item.Item.{Item}
use Rattle.nt_blocks.specs.Ordered.{kinds_of}
use Rattle.nt_blocks.specs.Verdict.{verdict}
use Rattle.nt_read.specs.Answers.{items_of}
use Rattle.nt_read.specs.declared.fault.ReadFault.{ReadFault}
use Rattle.nt_read.specs.declared.object_reader.ObjectReader.{ObjectReader}
use Rattle.nt_read.specs.declared.told.Told.{Told}
use Rattle.nt_read.specs.Names.{TellsNames}
use Rattle.nt_read.specs.Objects as reader
use Rattle.pt_report.specs.declared.report.Report.{Report}
use Rattle.pt_report.specs.state.Taken.{HasTaken}
use Rattle.pt_report.specs.declared.reading.Misplaced.{Misplaced}
use Rattle.pt_report.specs.declared.reading.Reading.{Reading}
use Rattle.pt_report.specs.declared.reading.Outcome.{Outcome}
use Rattle.pt_report.specs.declared.reading.Outcome.TheVariants as outcome
use Rattle.pt_report.specs.Found.{IsMisplaced, IsReported, IsRefused}

-- The report has taken the items, or one of them is the first that can't stand where it does.
abbrev pub IsChecked : List Item → Report → Option Misplaced → Type 0
IsChecked items report None = HasTaken (kinds_of items) report
IsChecked items report (Some misplaced) = IsMisplaced items misplaced.at misplaced.kind

-- These bytes were read.
pub record HasRead (bytes : List ℕ) (reading : Reading) : Type 0 where
  pub read : reader.HasRead TellsNames bytes reading.reader
  pub checked : IsChecked (items_of (verdict bytes)) reading.report reading.misplaced

-- After these bytes the reader was fed more, and this is what an object tells that ends with them, if one does.
abbrev pub IsFed : List ℕ → List ℕ → ObjectReader Told → Told → Type 0
IsFed bytes more fed told = (answer : Result (Unit {0}) ReadFault) × reader.Takes TellsNames bytes more answer fed told

-- How many bytes were read.
abbrev pub used : Reading → ℕ
used reading = reader.used reading.reader

-- The bytes come to this.
abbrev pub IsOutcome : List ℕ → Outcome → Type 0
IsOutcome bytes (outcome.Report text) = IsReported bytes text.items
IsOutcome bytes (outcome.Refused refusal) = IsRefused bytes refusal
