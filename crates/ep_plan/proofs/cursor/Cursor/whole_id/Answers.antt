use Rattle.std.proofs.Common.{rules, refl}
use Rattle.ep_plan.specs.Lines.{Id}
use Rattle.ep_plan.specs.Words.{id_in}
use Rattle.ep_plan.proofs.cursor.Cursor.whole_id.Goals as goal

pub returns-clause-bad : goal.returns-clause-bad
returns-clause-bad c = c.part.ensures.bad Id id_in (record { fault = λ word. refl; value = λ word result gives. search rules })
