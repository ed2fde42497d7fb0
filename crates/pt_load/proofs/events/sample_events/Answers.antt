use Rattle.pt_load.proofs.Pushed.{sample_parts}
use Rattle.pt_load.proofs.events.sample_events.Goals as goal

pub returns : goal.returns
returns c = sample_parts _ _ _ _ c.in_ok-events.ensures.items c.in_ok-push_web.ensures c.in_ok-push_store.ensures c.in_ok-push_jobs.ensures
