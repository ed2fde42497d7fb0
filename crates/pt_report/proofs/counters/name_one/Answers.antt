use Rattle.pt_report.proofs.Named.{thread-again}
use Rattle.pt_report.proofs.counters.name_one.Goals as goal

pub returns-else-is_first : goal.returns-else-is_first
returns-else-is_first c = λ kinds known h. thread-again c.args.thread kinds c.args.tally.now (known c.if-is_first.false) h

pub returns-in_ok-name : goal.returns-in_ok-name
returns-in_ok-name c = λ kinds known h. c.in_ok-name.ensures.ok _ _ h
