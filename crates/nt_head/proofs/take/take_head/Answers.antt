use Rattle.std.proofs.Common.{arith}
use Rattle.nt_head.proofs.Fronts.{head_form}
use Rattle.nt_head.proofs.take.take_head.Goals as goal

pub returns-in-Ok-clause-form : goal.returns-in-Ok-clause-form
returns-in-Ok-clause-form c = head_form c.args.previous.now c.take_next.new.state c.args.bytes.now c.in-Ok.used (λ i. omega (arith, c.type_inv.bytes i)) c.in-Ok.ensures.ok.within c.in-Ok.ensures.ok.read
