use Rattle.std.proofs.Common.{◌≡◌, ℕ, List, sym, ap, ◌∙◌, refl}
use Rattle.ep_defs.specs.declared.item.Item.{Item}
use Rattle.ep_defs.specs.Entry.{Entry}
use Rattle.nt_blocks.specs.Ordered.{AreOrdered, Tell, kinds_of}
use Rattle.nt_blocks.specs.Verdict.{Good, Bad, More, Verdict, verdict}
use Rattle.pt_report.specs.Report.{thread_lines}
use Rattle.pt_report.specs.Found.{IsReported}
use Rattle.pt_report.proofs.laws.a_stream_of_a_session_is_reported.Goals as goal

-- What tells entries is in order.
ordered : (items : List Item) (entries : List Entry) → Tell items entries → AreOrdered items
ordered items entries told = rw told refl

-- The items of a verdict that is good.
items_of : Verdict → List Item
items_of (Good items) = items
items_of (More items) = items
items_of (Bad refusal items) = items

-- A report has the items that are found.
same : (items : List Item) (bytes text : List ℕ) → verdict bytes ≡ Good items → (report : IsReported bytes text) → report.items ≡ items
unfolding items_of
same items bytes text found report = ap items_of (sym report.found ∙ found)

pub returns-clause-whole : goal.returns-clause-whole
returns-clause-whole c = λ items entries bytes found told. (items, found, ordered items entries told)

pub returns-clause-threads : goal.returns-clause-threads
returns-clause-threads c = λ definitions session past items bytes text lawful finished told found report.
    record {
      report = report;
      lines_are = ap (λ (those : List Item). thread_lines (kinds_of those)) (same items bytes text found report)
          ∙ c.a_report_has_a_line_for_each_thread.ensures definitions session past items lawful finished told;
    }
