use Rattle.std.proofs.Common.{◌≡◌, length, sym, ◌∙◌, rules}
use Rattle.std.specs.Prelude.{None}
use Rattle.nt_blocks.specs.Ordered.{kinds_of}
use Rattle.nt_blocks.specs.Verdict.{verdict}
use Rattle.nt_read.specs.Answers.{items_of}
use Rattle.pt_report.proofs.Whole.{good-verdict, all-taken}
use Rattle.pt_report.proofs.reading.Reading.outcome.Goals as goal

pub returns-in_ok-print-in-Ok : goal.returns-in_ok-print-in-Ok
returns-in_ok-print-in-Ok c = λ bytes read.
    let items = items_of (verdict bytes) in
    let none : c.args.self.now.misplaced ≡ None = search (rules, c.in_default.is) in
    let reports = all-taken items c.args.self.now.report c.args.self.now.misplaced none read.checked in
    record {
      items = items;
      found = good-verdict (length bytes) (verdict bytes) (sym (c.finish.ensures.read bytes read.read) ∙ c.in-Ok.is);
      entries = reports.entries;
      told = reports.told;
      text_is = c.in_ok-print-in-Ok.ensures (kinds_of items) reports.entries reports reports.told;
    }
