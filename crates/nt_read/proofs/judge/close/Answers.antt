use Rattle.nt_read.proofs.Steps.{close-refused, close-turns}
use Rattle.nt_read.proofs.judge.close.Goals as goal

pub returns-then-unit-ne-END_OBJECT-clause-judged : goal.returns-then-unit-ne-END_OBJECT-clause-judged
returns-then-unit-ne-END_OBJECT-clause-judged c = λ pending.
    rw c.bad.ensures (close-refused c.args.at pending c.args.unit.now c.requires c.if-unit-ne-END_OBJECT.true)

pub returns-clause-judged : goal.returns-clause-judged
returns-clause-judged c = λ pending. close-turns c.args.at pending c.args.unit.now c.requires c.if-unit-ne-END_OBJECT.false
