use Rattle.std.proofs.Common.{refl}
use Rattle.pt_num.specs.Numbers.{fixed, short_groups}
use Rattle.nt_write.proofs.vectors.five_events_of_one_thread_and_one_of_another.Goals as goal

pub returns-clause-head : goal.returns-clause-head
unfolding fixed short_groups
returns-clause-head c = refl

pub returns-clause-body : goal.returns-clause-body
unfolding fixed short_groups
returns-clause-body c = refl
