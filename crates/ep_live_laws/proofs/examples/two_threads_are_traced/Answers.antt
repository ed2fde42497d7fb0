use Rattle.std.proofs.Common.{false, refl, arith}
use Rattle.ep_live_laws.proofs.TwoThreads.{are-traced}
use Rattle.ep_live_laws.proofs.examples.two_threads_are_traced.Goals as goal

pub returns-clause-marks : goal.returns-clause-marks
returns-clause-marks c =
    record {
      threads = refl;
      counted = (
        record { ordered = omega arith; within = omega arith; counted = refl },
        (record { ordered = omega arith; within = omega arith; counted = refl }, tt),
      );
    }

pub returns-clause-refused : goal.returns-clause-refused
returns-clause-refused c = refl

pub returns-clause-traced : goal.returns-clause-traced
returns-clause-traced c = are-traced false

pub returns-clause-lost : goal.returns-clause-lost
returns-clause-lost c h = let one = h.taken.0 in omega (arith, one)
