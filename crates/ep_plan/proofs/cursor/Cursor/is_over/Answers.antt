use Rattle.ep_plan.proofs.CursorWords.{is-over, is-not-over}
use Rattle.ep_plan.proofs.cursor.Cursor.is_over.Goals as goal

pub returns-clause-over : goal.returns-clause-over
returns-clause-over c = is-over c.args.self.now c.is_none.result c.is_none.ensures

pub returns-clause-more : goal.returns-clause-more
returns-clause-more c = is-not-over c.args.self.now c.is_none.result c.is_none.ensures
