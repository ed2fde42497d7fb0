use Rattle.std.proofs.Common.{rules, refl}
use Rattle.ep_plan.specs.Lines.{Fields}
use Rattle.ep_plan.specs.Words.{fields_in}
use Rattle.ep_plan.proofs.cursor.Cursor.fields.Goals as goal

pub returns-clause-bad : goal.returns-clause-bad
returns-clause-bad c = c.part.ensures.bad Fields fields_in (record { fault = λ word. refl; value = λ word result gives. search rules })
