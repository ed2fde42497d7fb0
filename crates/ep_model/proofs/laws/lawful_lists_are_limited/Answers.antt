use Rattle.ep_model.proofs.Sessions.{begins_few, opened_few}
use Rattle.ep_model.proofs.laws.lawful_lists_are_limited.Goals as goal

pub returns : goal.returns
returns c = record { begins = begins_few; threads = opened_few }
