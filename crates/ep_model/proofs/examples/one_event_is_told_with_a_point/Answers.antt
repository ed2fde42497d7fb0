use Rattle.std.proofs.Common.{refl}
use Rattle.ep_model.proofs.examples.one_event_is_told_with_a_point.Goals as goal

pub returns-clause-lawful : goal.returns-clause-lawful
returns-clause-lawful c = refl

pub returns-clause-told : goal.returns-clause-told
returns-clause-told c = refl
