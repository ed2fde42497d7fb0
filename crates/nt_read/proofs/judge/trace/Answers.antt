use Rattle.nt_read.proofs.Objects.{trace-told}
use Rattle.nt_read.proofs.judge.trace.Goals as goal

pub returns : goal.returns
returns g c =
    trace-told g.T.Telling.tells c.args.at c.args.unit.now c.args.pending.now c.tell.new.self c.requires (rw c.info_in-info.ensures at c.in_ok-tell.ensures)
