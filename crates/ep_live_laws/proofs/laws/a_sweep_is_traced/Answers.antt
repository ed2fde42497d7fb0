use Rattle.ep_live_laws.proofs.Calls.{tracing-swept}
use Rattle.ep_live_laws.proofs.laws.a_sweep_is_traced.Goals as goal

pub returns : goal.returns
returns g c = tracing-swept g.S.Sink
