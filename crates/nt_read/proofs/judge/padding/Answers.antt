use Rattle.nt_read.proofs.Steps.{padding-turns}
use Rattle.nt_read.proofs.judge.padding.Goals as goal

pub returns : goal.returns
returns c = λ pending. padding-turns c.args.kind c.args.size c.args.at pending c.args.unit.now c.requires
