use Rattle.std.proofs.Common.{rules, refl}
use Rattle.ep_plan.specs.Lines.{Frames}
use Rattle.ep_plan.specs.Words.{frames_in}
use Rattle.ep_plan.proofs.cursor.Cursor.whole_frames.Goals as goal

pub returns-clause-bad : goal.returns-clause-bad
returns-clause-bad c = c.part.ensures.bad Frames frames_in (record { fault = λ word. refl; value = λ word result gives. search rules })
