use Rattle.ep_plan.proofs.Ahead.{next_id}
use Rattle.ep_plan.proofs.cursor.Cursor.id_ahead.Goals as goal

pub returns-in-Some : goal.returns-in-Some
returns-in-Some c = next_id c.args.self.now c.in-Some.text c.id_ahead.result c.in-Some.is c.id_ahead.ensures.word c.id_ahead.ensures.id
