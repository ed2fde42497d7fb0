use Rattle.std.proofs.Common.{◌≡◌, ◌+◌, length}
use Rattle.ep_pool.proofs.pool.Pool.give.Given as goal

abbrev pub invariant-loop-one : goal.invariant-loop-one
invariant-loop-one g l =
    record {
      seat : l.seat ≡ record l.fn.seat { given = l.seat.given };
      given : l.seat.given + length l.left ≡ l.fn.seat.given + length l.fn.chain;
    }

abbrev pub decreases-loop-one : goal.decreases-loop-one
decreases-loop-one g l = length l.left
