use Rattle.nt_read.proofs.Steps.{ended-refused}
use Rattle.nt_read.proofs.judge.ended.Goals as goal

pub returns : goal.returns
returns c = λ pending. rw c.bad.ensures (ended-refused c.args.at pending c.args.unit.now c.requires)
