use Rattle.ep_stream_laws.proofs.Steps.{opened_follows}
use Rattle.ep_stream_laws.proofs.laws.an_opened_thread_is_named.Goals as goal

pub returns : goal.returns
returns c = opened_follows
