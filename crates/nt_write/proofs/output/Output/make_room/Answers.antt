use Rattle.nt_write.proofs.Answered.{on_ok-then}
use Rattle.nt_write.proofs.Flushing.{emptied-room}
use Rattle.nt_write.proofs.output.Output.make_room.Goals as goal

pub returns-then-lacks_room-clause-room : goal.returns-then-lacks_room-clause-room
returns-then-lacks_room-clause-room g c =
    on_ok-then c.flush.result (λ h. emptied-room c.args.arrival.now c.flush.new.pending c.requires h) c.flush.ensures.empty
