use Rattle.ep_live_laws.proofs.Calls.{tracing-closed}
use Rattle.ep_live_laws.proofs.laws.a_closed_row_is_traced.Goals as goal

pub returns : goal.returns
returns g c = tracing-closed g.S.Sink
