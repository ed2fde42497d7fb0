use Rattle.std.proofs.Common.{refl}
use Rattle.pt_num.specs.Numbers.{fixed}
use Rattle.ep_rundown.proofs.laws.small_sessions_are_described.Goals as goal

pub returns-clause-one : goal.returns-clause-one
unfolding fixed
returns-clause-one c = refl

pub returns-clause-in_turn : goal.returns-clause-in_turn
unfolding fixed
returns-clause-in_turn c = refl
