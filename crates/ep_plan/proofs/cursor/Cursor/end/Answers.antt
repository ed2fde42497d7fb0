use Rattle.ep_plan.proofs.CursorWords.{is-left_over, is-end}
use Rattle.ep_plan.proofs.cursor.Cursor.end.Goals as goal

pub returns-clause-bad : goal.returns-clause-bad
returns-clause-bad c = is-left_over c.args.self.now c.bad.result c.column.result c.if-is_over.ensures.more c.bad.ensures c.column.ensures

pub returns-then-is_over-clause-good : goal.returns-then-is_over-clause-good
returns-then-is_over-clause-good c = is-end c.args.self.now c.if-is_over.ensures.over
