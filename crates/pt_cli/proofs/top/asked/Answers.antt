-- The end is named by its numbers.
use Rattle.pt_cli.proofs.top.asked.Goals as goal

pub returns-clause-asks : goal.returns-clause-asks
returns-clause-asks g c = (c.client-end.result.end, c.ended_with.ensures.ended, (rw c.ended_with.ensures.peer c.client-end.ensures.asks))
