use Rattle.ep_tables.proofs.Makes.{can_make}
use Rattle.ep_tables.proofs.laws.what_a_step_needs_is_there.Goals as goal

pub returns : goal.returns
returns c events past tables step follow none = can_make events past tables step (λ session. c.a_budget_can_be_counted.ensures.in_hand session past) follow none
