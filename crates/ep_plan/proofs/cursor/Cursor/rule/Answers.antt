use Rattle.std.proofs.Common.{rules, refl}
use Rattle.ep_plan.specs.Lines.{Rule}
use Rattle.ep_plan.specs.Words.{rule_in}
use Rattle.ep_plan.proofs.cursor.Cursor.rule.Goals as goal

pub returns-clause-bad : goal.returns-clause-bad
returns-clause-bad c = c.part.ensures.bad Rule rule_in (record { fault = λ word. refl; value = λ word result gives. search rules })
