use Rattle.std.proofs.Common.{refl}
use Rattle.nt_blocks.specs.Ordered.{no_names, kinds_of}
use Rattle.pt_events.specs.Lines.{unsaid}
use Rattle.pt_events.proofs.Sums.{events-after, lost-after}
use Rattle.pt_events.proofs.laws.lines_have_what_a_report_counts.Goals as goal

pub returns-clause-events : goal.returns-clause-events
returns-clause-events c = λ items entries told. events-after no_names _ unsaid (kinds_of items) (rw told refl)

pub returns-clause-lost : goal.returns-clause-lost
returns-clause-lost c = λ thread items. lost-after thread no_names _ unsaid (kinds_of items)
