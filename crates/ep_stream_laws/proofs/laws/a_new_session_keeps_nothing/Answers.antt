use Rattle.ep_stream_laws.proofs.Steps.{accepted_follows}
use Rattle.ep_stream_laws.proofs.laws.a_new_session_keeps_nothing.Goals as goal

pub returns : goal.returns
returns c = accepted_follows
