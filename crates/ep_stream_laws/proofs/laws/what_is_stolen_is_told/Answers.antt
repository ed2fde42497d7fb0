use Rattle.ep_stream_laws.proofs.Steps.{stolen_follows}
use Rattle.ep_stream_laws.proofs.laws.what_is_stolen_is_told.Goals as goal

pub returns : goal.returns
returns c events past rest thread last chunks =
    stolen_follows events past rest thread last chunks (c.a_budget_can_be_counted.ensures.in_hand rest.seat.id past)
