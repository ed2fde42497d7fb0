use Rattle.std.proofs.Common.{arith}
use Rattle.nt_head.proofs.ShortVars.{one_32, one_64, two_32, two_64, three_32, three_64}
use Rattle.nt_head.proofs.take.short_var.Goals as goal

pub returns-then-first-lt-GROUP-clause-narrow : goal.returns-then-first-lt-GROUP-clause-narrow
returns-then-first-lt-GROUP-clause-narrow c = one_32 c.args.bytes.now c.args.at (omega arith) c.if-first-lt-GROUP.true

pub returns-then-first-lt-GROUP-clause-wide : goal.returns-then-first-lt-GROUP-clause-wide
returns-then-first-lt-GROUP-clause-wide c = one_64 c.args.bytes.now c.args.at (omega arith) c.if-first-lt-GROUP.true

pub returns-then-second-lt-GROUP-clause-narrow : goal.returns-then-second-lt-GROUP-clause-narrow
returns-then-second-lt-GROUP-clause-narrow c = two_32 c.args.bytes.now c.args.at (omega arith) c.if-first-lt-GROUP.false c.if-second-lt-GROUP.true

pub returns-then-second-lt-GROUP-clause-wide : goal.returns-then-second-lt-GROUP-clause-wide
returns-then-second-lt-GROUP-clause-wide c = two_64 c.args.bytes.now c.args.at (omega arith) c.if-first-lt-GROUP.false c.if-second-lt-GROUP.true

pub returns-then-third-lt-GROUP-clause-narrow : goal.returns-then-third-lt-GROUP-clause-narrow
returns-then-third-lt-GROUP-clause-narrow c = three_32 c.args.bytes.now c.args.at (omega arith) c.if-first-lt-GROUP.false c.if-second-lt-GROUP.false c.if-third-lt-GROUP.true

pub returns-then-third-lt-GROUP-clause-wide : goal.returns-then-third-lt-GROUP-clause-wide
returns-then-third-lt-GROUP-clause-wide c = three_64 c.args.bytes.now c.args.at (omega arith) c.if-first-lt-GROUP.false c.if-second-lt-GROUP.false c.if-third-lt-GROUP.true
