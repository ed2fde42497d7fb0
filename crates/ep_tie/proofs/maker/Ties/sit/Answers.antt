use Rattle.std.proofs.Common.{rules, refl}
use Rattle.ep_tie.specs.declared.steps.Sight.TheVariants.{Spent}
use Rattle.ep_tie.proofs.Seatings.{sits}
use Rattle.ep_tie.proofs.maker.Ties.sit.Goals as goal

pub load_new_seat-requires : goal.load_new_seat-requires
load_new_seat-requires g c = (search rules, λ s kept homes fits. (Spent, sits s.views kept, refl))
