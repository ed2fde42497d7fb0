-- A run's sessions have marks as few as its threads.
use Rattle.pt_run.proofs.Few.{sessions-few}
use Rattle.pt_run.proofs.command.run_at.Goals as goal

pub told-end-requires : goal.told-end-requires
told-end-requires g c =
    record { few = sessions-few g.L.Sink.read_side g.L.Sink _ c.in-Ok.live.sessions.items c.requires.plan.few c.requires.lives.1 c.in-Ok.ensures.ran.each }
