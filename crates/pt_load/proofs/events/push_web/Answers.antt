use Rattle.pt_load.specs.Sample.{sample}
use Rattle.pt_load.proofs.Pushed.{pushed_three}
use Rattle.pt_load.proofs.events.push_web.Goals as goal

pub returns : goal.returns
unfolding sample
returns c =
    pushed_three _ _ _ _ _ _ _ _ _ _ c.in_ok-push.ensures.items c.in_ok-push-2.ensures.items c.in_ok-push-3.ensures.items
    c.in_ok-event.ensures c.in_ok-event-2.ensures c.in_ok-event-3.ensures
