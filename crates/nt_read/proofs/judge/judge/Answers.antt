use Rattle.nt_read.proofs.Objects.{plain-judges}
use Rattle.nt_read.proofs.judge.judge.Goals as goal

pub returns-in_default : goal.returns-in_default
returns-in_default g c = record {
  judged = plain-judges g.T.Telling.tells c.args.stage c.args.at c.args.unit.now c.args.pending.now c.plain.result c.plain.ensures.judged;
  tag = c.plain.ensures.tag;
}
