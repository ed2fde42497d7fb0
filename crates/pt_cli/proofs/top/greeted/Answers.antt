-- The end is named by its numbers.
use Rattle.pt_cli.proofs.top.greeted.Goals as goal

pub returns-clause-greets : goal.returns-clause-greets
returns-clause-greets g c = (c.greet-end.result.end, c.ended_with.ensures.ended, (rw c.ended_with.ensures.peer c.greet-end.ensures.greets))
