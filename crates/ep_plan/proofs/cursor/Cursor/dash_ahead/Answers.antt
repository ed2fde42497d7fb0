use Rattle.ep_plan.proofs.cursor.Cursor.dash_ahead.Goals as goal

pub returns-in-Some : goal.returns-in-Some
returns-in-Some c = λ dash. (record { text = c.in-Some.text; rest = c.in-Some.is; word = c.dash_ahead.ensures.word dash }, c.dash_ahead.ensures.dash dash)
