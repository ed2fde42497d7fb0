use Rattle.std.proofs.Common.{arith}
use Rattle.pt_num.proofs.Groups.{short_var-32}
use Rattle.pt_num.proofs.varuint.put_var32.Goals as goal

pub returns-clause-form : goal.returns-clause-form
returns-clause-form c = short_var-32 c.args.value (omega arith)

pub returns-in_err-reserve-clause-form : goal.returns-in_err-reserve-clause-form
returns-in_err-reserve-clause-form c = short_var-32 c.args.value (omega arith)
