use Rattle.std.proofs.Common.{refl}
use Rattle.ep_model.proofs.examples.refused_writes_fill_no_hand.Goals as goal

pub returns-clause-lawful : goal.returns-clause-lawful
returns-clause-lawful c = refl

pub returns-clause-refused : goal.returns-clause-refused
returns-clause-refused c = refl
