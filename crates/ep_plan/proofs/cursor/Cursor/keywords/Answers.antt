use Rattle.std.proofs.Common.{rules, refl}
use Rattle.ep_plan.specs.Lines.{Keywords}
use Rattle.ep_plan.specs.Words.{hex_in}
use Rattle.ep_plan.proofs.cursor.Cursor.keywords.Goals as goal

pub returns-clause-bad : goal.returns-clause-bad
returns-clause-bad c = c.part.ensures.bad Keywords hex_in (record { fault = λ word. refl; value = λ word result gives. search rules })
