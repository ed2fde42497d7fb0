-- What was read of a stream.
use Rattle.std.specs.Prelude.{ℕ, List, Option, Some, None, Result}
use Rattle.ep_defs.specs.declared.item.Item.{Item}
use Rattle.nt_blocks.specs.declared.event_body.BodyEvent.{BodyEvent}
use Rattle.nt_blocks.specs.Ordered.{kinds_of}
use Rattle.nt_blocks.specs.Placed.{event_of}
use Rattle.nt_blocks.specs.Verdict.{verdict}
use Rattle.nt_read.specs.Answers.{items_of}
use Rattle.nt_read.specs.declared.fault.ReadFault.{ReadFault}
use Rattle.nt_read.specs.declared.lent.Lent.{Lent}
use Rattle.nt_read.specs.declared.object_reader.ObjectReader.{ObjectReader}
use Rattle.nt_read.specs.Lent.{TellsInPlace}
use Rattle.nt_read.specs.Objects as reader
use Rattle.pt_report.specs.declared.errors.Refusal.{Refusal}
use Rattle.pt_lines.specs.declared.form.Form.{Form}
use Rattle.pt_events.specs.declared.listing.Listing.{Listing}
use Rattle.pt_events.specs.declared.reading.Misplaced.{Misplaced}
use Rattle.pt_events.specs.declared.reading.Reading.{Reading}
use Rattle.pt_events.specs.Found.{AreLinesOf, IsListed, IsCut, StandsBefore}
use Rattle.pt_events.specs.state.Listed.{HasListed}

-- The text is the lines of all items, or of those before the first that can't stand where it does.
abbrev pub IsChecked : Form → List Item → List ℕ → Listing → Option Misplaced → Type 0
IsChecked form items text listing None = HasListed (kinds_of items) listing × AreLinesOf form items text
IsChecked form items text listing (Some misplaced) = StandsBefore form items misplaced.at misplaced.kind text

-- These bytes were read, and this text was put, in this form.
pub record HasRead (form : Form) (bytes text : List ℕ) (reading : Reading) : Type 0 where
  pub read : reader.HasRead TellsInPlace bytes reading.reader
  pub checked : IsChecked form (items_of (verdict bytes)) text reading.listing reading.misplaced

-- After these bytes the reader was fed more, and this is what an object tells that ends with them, if one does.
abbrev pub IsFed : List ℕ → List ℕ → ObjectReader Lent → Lent → Type 0
IsFed bytes more fed lent = (answer : Result (Unit {0}) ReadFault) × reader.Takes TellsInPlace bytes more answer fed lent

-- The item of an event of a body.
abbrev pub item_of : BodyEvent → Item
item_of event = record { at = event.at; kind = event_of event.head.now event.payload.now }

-- How many bytes were read.
abbrev pub used : Reading → ℕ
used reading = reader.used reading.reader

-- The bytes come to this, where the text was put.
abbrev pub EndsSo : Form → List ℕ → List ℕ → Option Refusal → Type 0
EndsSo form bytes text None = IsListed form bytes text
EndsSo form bytes text (Some refusal) = IsCut form bytes refusal.at refusal.flaw text
