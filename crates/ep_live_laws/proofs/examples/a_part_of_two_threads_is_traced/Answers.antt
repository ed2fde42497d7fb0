use Rattle.std.proofs.Common.{refl, arith}
use Rattle.ep_live_laws.proofs.examples.a_part_of_two_threads_is_traced.Goals as goal

pub returns-clause-part : goal.returns-clause-part
returns-clause-part c =
    record {
      rising = ((omega arith, omega arith), ((omega arith, omega arith), tt));
      in_place = ((refl, tt), ((refl, tt), tt));
      alone = (refl, (refl, (refl, tt)));
    }

pub returns-clause-swapped : goal.returns-clause-swapped
returns-clause-swapped c h = let order = h.rising.0.1.0 in omega (arith, order)
