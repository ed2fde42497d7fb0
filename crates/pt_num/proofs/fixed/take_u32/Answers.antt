use Rattle.std.proofs.Common.{arith}
use Rattle.pt_num.proofs.FixedForms.{fixed_32}
use Rattle.pt_num.proofs.fixed.take_u32.Goals as goal

pub returns-clause-form : goal.returns-clause-form
returns-clause-form c = rw c.read_u32.ensures (fixed_32 c.args.bytes.now (omega arith) (λ i. omega (arith, c.type_inv.bytes i)))
