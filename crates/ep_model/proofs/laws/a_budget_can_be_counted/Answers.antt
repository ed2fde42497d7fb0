use Rattle.ep_model.proofs.Counted.{held-counted, hand-counted, needs-counted, refused-counted}
use Rattle.ep_model.proofs.laws.a_budget_can_be_counted.Goals as goal

pub returns : goal.returns
returns c = record { held = held-counted; in_hand = hand-counted; needs = needs-counted; refused = refused-counted }
