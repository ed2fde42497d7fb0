use Rattle.std.proofs.Common.{◌∙◌}
use Rattle.ep_live_tests.proofs.tests.rows.Opened.lend.Goals as goal

pub returns-clause-halves : goal.returns-clause-halves
returns-clause-halves g c = c.lend.ensures.halves 0 (c.self.view_is ∙ c.requires.here)
