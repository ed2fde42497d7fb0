use Rattle.nt_head.proofs.ShortVars.{one_64}
use Rattle.nt_names.proofs.head.next64.Goals as goal

pub returns-then-bytes-at-lt-GROUP-clause-some : goal.returns-then-bytes-at-lt-GROUP-clause-some
returns-then-bytes-at-lt-GROUP-clause-some c = rw c.from-value.ensures (one_64 c.args.bytes.now c.args.at.now c.if-at-bytes.true c.if-bytes-at-lt-GROUP.true)
