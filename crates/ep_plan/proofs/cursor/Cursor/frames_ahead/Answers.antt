use Rattle.ep_plan.proofs.Ahead.{next_frames}
use Rattle.ep_plan.proofs.cursor.Cursor.frames_ahead.Goals as goal

pub returns-in-Some : goal.returns-in-Some
returns-in-Some c = next_frames c.args.self.now c.in-Some.text _ c.frames_ahead.result c.in-Some.is c.frames_ahead.ensures.word c.frames_ahead.ensures.read
