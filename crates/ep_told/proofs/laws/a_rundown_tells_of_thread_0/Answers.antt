use Rattle.ep_told.proofs.WithRundown.{with-thread_0}
use Rattle.ep_told.proofs.laws.a_rundown_tells_of_thread_0.Goals as goal

pub returns : goal.returns
returns c = with-thread_0
