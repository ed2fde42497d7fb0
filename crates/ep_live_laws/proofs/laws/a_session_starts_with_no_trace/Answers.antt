use Rattle.ep_live_laws.proofs.Calls.{tracing-started}
use Rattle.ep_live_laws.proofs.laws.a_session_starts_with_no_trace.Goals as goal

pub returns : goal.returns
returns g c = tracing-started g.S.Sink
