use Rattle.std.proofs.Common.{arith}
use Rattle.pt_listen.proofs.hearing.Hearing.sweep.Goals as goal

pub loop-place-init : goal.loop-place-init
loop-place-init g c = record { hearing = c.self.invariant; few = omega arith }

pub take_row-count-requires : goal.take_row-count-requires
take_row-count-requires g c =
    record {
      row = (omega arith, omega (arith, c.loop-place-test.true, c.threads-place-end.ensures, c.self.invariant.rows.rows));
      hearing = c.loop-place.invariant.hearing;
    }

pub loop-place-preserved : goal.loop-place-preserved
loop-place-preserved g c =
    record {
      hearing = c.take_row-count.ensures;
      few = omega (arith, c.loop-place.invariant.few, c.take_row-count.type_inv);
    }

pub invariant_of-hearing : goal.invariant_of-hearing
invariant_of-hearing g c = c.loop-place.invariant.hearing
