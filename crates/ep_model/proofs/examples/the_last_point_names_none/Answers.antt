use Rattle.std.proofs.Common.{refl}
use Rattle.ep_model.proofs.examples.the_last_point_names_none.Goals as goal

pub returns-clause-lawful : goal.returns-clause-lawful
returns-clause-lawful c = refl

pub returns-clause-told : goal.returns-clause-told
returns-clause-told c = refl
