use Rattle.std.proofs.Common.{◌∙◌}
use Rattle.ep_live_tests.proofs.tests.rows.Opened.take.Goals as goal

pub take_once-requires-clause-hand : goal.take_once-requires-clause-hand
take_once-requires-clause-hand g c = c.self.invariant.hands 1 3

pub take_once-requires-2-clause-hand : goal.take_once-requires-2-clause-hand
take_once-requires-2-clause-hand g c = c.take_once.ensures.hand 2 3 ∙ c.self.invariant.hands 2 3
