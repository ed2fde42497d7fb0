use Rattle.std.proofs.Common.{arith}
use Rattle.nt_names.proofs.Heads.{id_passes}
use Rattle.nt_names.proofs.head.pass_id.Goals as goal

pub returns-else-bytes-at-lt-ID_BYTES-clause-some :
    goal.returns-else-bytes-at-lt-ID_BYTES-clause-some
returns-else-bytes-at-lt-ID_BYTES-clause-some c = id_passes c.args.there c.args.bytes.now c.args.at.now c.if-there.true (omega arith)
