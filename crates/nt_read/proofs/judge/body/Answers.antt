use Rattle.nt_read.proofs.Objects.{body-told}
use Rattle.nt_read.proofs.Steps.{body-refused}
use Rattle.nt_read.proofs.judge.body.Goals as goal

pub returns-in-Ok : goal.returns-in-Ok
returns-in-Ok g c =
    body-told g.T.Telling.tells c.args.kind c.args.size c.args.at c.args.unit.now c.args.pending.now c.tell_body.new.self c.requires.whole c.in-Ok.ensures.ok

pub returns-in-Err : goal.returns-in-Err
returns-in-Err g c = λ held.
    rw c.fault_in.ensures (body-refused c.args.kind c.args.size c.args.at held c.args.unit.now c.in-Err.fault c.requires.whole c.in-Err.ensures.fault)
