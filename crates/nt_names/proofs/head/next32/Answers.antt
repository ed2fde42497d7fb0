use Rattle.nt_head.proofs.ShortVars.{one_32}
use Rattle.nt_names.proofs.head.next32.Goals as goal

pub returns-then-bytes-at-lt-GROUP-clause-some : goal.returns-then-bytes-at-lt-GROUP-clause-some
returns-then-bytes-at-lt-GROUP-clause-some c = rw c.from-value.ensures (one_32 c.args.bytes.now c.args.at.now c.if-at-bytes.true c.if-bytes-at-lt-GROUP.true)
