use Rattle.std.proofs.Common.{arith}
use Rattle.ep_plan.proofs.Ahead.{in_table, digit_other, digit_most}
use Rattle.ep_plan.proofs.words.ahead.digit_of.Goals as goal

pub returns-clause-digit : goal.returns-clause-digit
returns-clause-digit c = λ small. in_table c.args.byte (omega arith) small

pub returns-clause-other : goal.returns-clause-other
returns-clause-other c = λ small. digit_other c.args.byte (omega arith) small

pub returns-clause-most : goal.returns-clause-most
returns-clause-most c = digit_most c.args.byte (omega arith)
