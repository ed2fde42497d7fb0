use Rattle.std.proofs.Common.{refl}
use Rattle.ep_model.proofs.examples.a_steal_in_a_write_takes_nothing.Goals as goal

pub returns-clause-lawful : goal.returns-clause-lawful
returns-clause-lawful c = refl

pub returns-clause-told : goal.returns-clause-told
returns-clause-told c = refl
