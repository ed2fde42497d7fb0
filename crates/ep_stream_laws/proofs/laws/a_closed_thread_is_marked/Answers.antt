use Rattle.ep_stream_laws.proofs.Steps.{closed_follows}
use Rattle.ep_stream_laws.proofs.laws.a_closed_thread_is_marked.Goals as goal

pub returns : goal.returns
returns c events past rest thread last chunks marks =
    closed_follows events past rest thread last chunks marks (c.a_budget_can_be_counted.ensures.in_hand rest.seat.id past)
