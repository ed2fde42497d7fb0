use Rattle.std.proofs.Common.{refl}
use Rattle.ep_model.proofs.examples.stacks_are_told_where_they_are_wanted.Goals as goal

pub returns-clause-lawful : goal.returns-clause-lawful
returns-clause-lawful c = refl

pub returns-clause-wanted : goal.returns-clause-wanted
returns-clause-wanted c = refl

pub returns-clause-unwanted : goal.returns-clause-unwanted
returns-clause-unwanted c = refl
