use Rattle.std.proofs.Common.{rules, refl}
use Rattle.ep_plan.specs.Lines.{Name}
use Rattle.ep_plan.specs.Words.{event_name_in}
use Rattle.ep_plan.proofs.cursor.Cursor.name.Goals as goal

pub returns-clause-bad : goal.returns-clause-bad
returns-clause-bad c = c.part.ensures.bad Name event_name_in (record { fault = λ word. refl; value = λ word result gives. search rules })
