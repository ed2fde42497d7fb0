use Rattle.std.proofs.Common.{arith}
use Rattle.pt_num.proofs.FixedForms.{fixed_64}
use Rattle.pt_num.proofs.fixed.take_u64.Goals as goal

pub returns-clause-form : goal.returns-clause-form
returns-clause-form c = rw c.read_u64.ensures (fixed_64 c.args.bytes.now (omega arith) (λ i. omega (arith, c.type_inv.bytes i)))
