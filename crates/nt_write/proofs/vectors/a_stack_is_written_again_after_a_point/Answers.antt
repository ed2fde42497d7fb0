use Rattle.std.proofs.Common.{refl}
use Rattle.pt_num.specs.Numbers.{fixed, short_groups}
use Rattle.nt_write.proofs.vectors.a_stack_is_written_again_after_a_point.Goals as goal

pub returns-clause-stacks : goal.returns-clause-stacks
unfolding fixed short_groups
returns-clause-stacks c = refl

pub returns-clause-events : goal.returns-clause-events
unfolding fixed short_groups
returns-clause-events c = refl
