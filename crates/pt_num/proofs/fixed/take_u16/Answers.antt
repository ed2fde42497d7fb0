use Rattle.std.proofs.Common.{arith}
use Rattle.pt_num.proofs.FixedForms.{fixed_16}
use Rattle.pt_num.proofs.fixed.take_u16.Goals as goal

pub returns-clause-form : goal.returns-clause-form
returns-clause-form c = rw c.read_u16.ensures (fixed_16 c.args.bytes.now (omega arith) (λ i. omega (arith, c.type_inv.bytes i)))
