use Rattle.std.proofs.Common.{◌∙◌}
use Rattle.ep_live_tests.proofs.tests.rows.Opened.close.Goals as goal

pub close_once-one-requires-clause-hand : goal.close_once-one-requires-clause-hand
close_once-one-requires-clause-hand g c = c.self.invariant.hands 1 3

pub close_once-other-requires-clause-hand : goal.close_once-other-requires-clause-hand
close_once-other-requires-clause-hand g c = c.close_once-one.ensures.hand 2 3 ∙ c.self.invariant.hands 2 3
