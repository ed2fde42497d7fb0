use Rattle.std.proofs.Common.{◌∙◌}
use Rattle.ep_live_tests.proofs.tests.rows.open_both.Goals as goal

pub attach-requires-clause-off : goal.attach-requires-clause-off
attach-requires-clause-off g c = c.requires.closed.hands 1 3

pub attach-requires-2-clause-off : goal.attach-requires-2-clause-off
attach-requires-2-clause-off g c = c.in_ok-first.ensures.expected 2 3 ∙ c.requires.closed.hands 2 3
