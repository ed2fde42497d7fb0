use Rattle.pt_load.specs.Sample.{sample}
use Rattle.pt_load.proofs.Pushed.{pushed_two}
use Rattle.pt_load.proofs.events.push_jobs.Goals as goal

pub returns : goal.returns
unfolding sample
returns c =
    pushed_two _ _ _ _ _ _ _ c.in_ok-push.ensures.items c.in_ok-push-2.ensures.items c.in_ok-event.ensures c.in_ok-event-2.ensures
