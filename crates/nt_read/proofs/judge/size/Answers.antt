use Rattle.nt_read.proofs.Steps.{size-refused, size-turns}
use Rattle.nt_read.proofs.judge.size.Goals as goal

pub returns-then-size-gt-READ_BYTES : goal.returns-then-size-gt-READ_BYTES
returns-then-size-gt-READ_BYTES c = λ pending.
    rw (c.bad.ensures, c.number_at-size.ensures) (size-refused c.args.kind c.args.at pending c.args.unit.now c.requires (rw c.number_at-size.ensures at c.if-size-gt-READ_BYTES.true))

pub returns : goal.returns
returns c = λ pending.
    rw c.number_at-size.ensures (size-turns c.args.kind c.args.at pending c.args.unit.now c.requires (rw c.number_at-size.ensures at c.if-size-gt-READ_BYTES.false))
