use Rattle.ep_stream_laws.proofs.Steps.{pointed_follows}
use Rattle.ep_stream_laws.proofs.laws.a_point_forgets_closed_threads.Goals as goal

pub returns : goal.returns
returns c = pointed_follows
