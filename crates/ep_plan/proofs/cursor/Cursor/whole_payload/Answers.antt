use Rattle.std.proofs.Common.{rules, refl}
use Rattle.ep_plan.specs.Lines.{Payload}
use Rattle.ep_plan.specs.Words.{payload_in}
use Rattle.ep_plan.proofs.cursor.Cursor.whole_payload.Goals as goal

pub returns-clause-bad : goal.returns-clause-bad
returns-clause-bad c = c.part.ensures.bad Payload payload_in (record { fault = λ word. refl; value = λ word result gives. search rules })
