use Rattle.std.proofs.Common.{◌∙◌, ap}
use Rattle.ep_live.specs.RowSet.{LiveRowsState}
use Rattle.ep_live.proofs.live_rows.LiveRows.lend.Goals as goal

pub returns-clause-halves : goal.returns-clause-halves
returns-clause-halves g c index is = c.lend.ensures.halves index (ap (λ (v : LiveRowsState). v.stands) c.self.view_is ∙ is)
