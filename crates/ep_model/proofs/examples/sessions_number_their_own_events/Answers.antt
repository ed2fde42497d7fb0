use Rattle.std.proofs.Common.{refl}
use Rattle.ep_model.proofs.examples.sessions_number_their_own_events.Goals as goal

pub returns-clause-lawful : goal.returns-clause-lawful
returns-clause-lawful c = refl

pub returns-clause-first : goal.returns-clause-first
returns-clause-first c = refl

pub returns-clause-second : goal.returns-clause-second
returns-clause-second c = refl
