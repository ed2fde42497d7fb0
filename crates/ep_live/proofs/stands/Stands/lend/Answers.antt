use Rattle.std.proofs.Common.{◌∙◌}
use Rattle.ep_live.proofs.stands.Stands.lend.Goals as goal

pub returns-clause-halves : goal.returns-clause-halves
returns-clause-halves g c index is = (c.result.invariant.here index (c.result.view_is ∙ c.replace.ensures.value ∙ is)).1
