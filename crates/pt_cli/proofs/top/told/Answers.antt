-- The end is named by its numbers.
use Rattle.pt_cli.proofs.top.told.Goals as goal

pub returns-clause-comes : goal.returns-clause-comes
returns-clause-comes g c = (c.without_waiting-end.result, c.ended_with.ensures.ended, c.without_waiting-end.ensures.comes)
