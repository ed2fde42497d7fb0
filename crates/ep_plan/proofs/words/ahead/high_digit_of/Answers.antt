use Rattle.std.proofs.Common.{arith}
use Rattle.ep_plan.proofs.Ahead.{in_high_table, high_most}
use Rattle.ep_plan.proofs.words.ahead.high_digit_of.Goals as goal

pub returns-clause-digit : goal.returns-clause-digit
returns-clause-digit c = λ small. in_high_table c.args.byte (omega arith) small

pub returns-clause-most : goal.returns-clause-most
returns-clause-most c = high_most c.args.byte (omega arith)
