use Rattle.std.proofs.Common.{◌∷◌, [], true, refl}
use Rattle.ep_model.specs.Schedules.{point_at}
use Rattle.pt_num.specs.Numbers.{fixed}
use Rattle.ep_live_laws.proofs.TwoThreads.{are-traced}
use Rattle.ep_live_laws.proofs.examples.two_threads_are_described.Goals as goal

pub returns-clause-told : goal.returns-clause-told
unfolding fixed
returns-clause-told c = refl

pub returns-clause-traced : goal.returns-clause-traced
returns-clause-traced c = are-traced true

pub returns-clause-cut : goal.returns-clause-cut
unfolding fixed
returns-clause-cut c = (point_at 200 ((0, 1) ∷ (1, 3) ∷ (2, 1) ∷ []) ∷ [], refl)
