use Rattle.std.proofs.Common.{refl}
use Rattle.ep_plan.specs.Cursor.{left}
use Rattle.ep_plan.proofs.cursor.Cursor.new.Goals as goal

pub returns-clause-words : goal.returns-clause-words
unfolding left
returns-clause-words c = refl
