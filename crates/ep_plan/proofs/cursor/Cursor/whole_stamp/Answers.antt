use Rattle.std.proofs.Common.{rules, refl}
use Rattle.ep_plan.specs.Lines.{Stamp, stamp_of}
use Rattle.ep_plan.proofs.cursor.Cursor.whole_stamp.Goals as goal

pub returns-clause-bad : goal.returns-clause-bad
returns-clause-bad c = c.part.ensures.bad Stamp stamp_of (record { fault = λ word. refl; value = λ word result gives. search rules })
