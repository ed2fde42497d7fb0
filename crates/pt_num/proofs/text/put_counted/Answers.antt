use Rattle.std.proofs.Common.{arith}
use Rattle.pt_num.proofs.TextForms.{text_c_is}
use Rattle.pt_num.proofs.text.put_counted.Goals as goal

pub returns-in_err-reserve-clause-form : goal.returns-in_err-reserve-clause-form
returns-in_err-reserve-clause-form c = text_c_is c.args.units.now (omega arith) (λ i. omega (arith, c.type_inv.units i))

pub returns-clause-form : goal.returns-clause-form
returns-clause-form c = text_c_is c.args.units.now (omega arith) (λ i. omega (arith, c.type_inv.units i))
