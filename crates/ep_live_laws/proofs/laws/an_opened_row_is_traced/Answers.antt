use Rattle.ep_live_laws.proofs.Calls.{tracing-fresh, tracing-opened}
use Rattle.ep_live_laws.proofs.laws.an_opened_row_is_traced.Goals as goal

pub returns-clause-traced : goal.returns-clause-traced
returns-clause-traced g c = tracing-opened g.S.Sink

pub returns-clause-fresh : goal.returns-clause-fresh
returns-clause-fresh g c = tracing-fresh g.S.Sink
