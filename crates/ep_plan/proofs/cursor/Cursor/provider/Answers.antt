use Rattle.std.proofs.Common.{rules, refl}
use Rattle.ep_plan.specs.Lines.{Provider}
use Rattle.ep_plan.specs.Words.{provider_in}
use Rattle.ep_plan.proofs.cursor.Cursor.provider.Goals as goal

pub returns-clause-bad : goal.returns-clause-bad
returns-clause-bad c = c.part.ensures.bad Provider provider_in (record { fault = λ word. refl; value = λ word result gives. search rules })
