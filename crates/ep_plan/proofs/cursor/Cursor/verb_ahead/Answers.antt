use Rattle.ep_plan.proofs.Ahead.{next_verb}
use Rattle.ep_plan.proofs.cursor.Cursor.verb_ahead.Goals as goal

pub returns-in-Some : goal.returns-in-Some
returns-in-Some c = next_verb c.args.self.now c.in-Some.text c.verb_ahead.result c.in-Some.is c.verb_ahead.ensures.word c.verb_ahead.ensures.name
