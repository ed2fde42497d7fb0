use Rattle.ep_live_laws.proofs.Calls.{tracing-same}
use Rattle.ep_live_laws.proofs.laws.a_call_that_takes_nothing_changes_no_trace.Goals as goal

pub returns : goal.returns
returns g c = tracing-same g.S.Sink
