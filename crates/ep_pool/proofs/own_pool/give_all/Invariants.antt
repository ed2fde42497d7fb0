use Rattle.std.proofs.Common.{◌≡◌, ◌+◌, length, min, vec_len}
use Rattle.ep_pool.specs.Free.{IsFree}
use Rattle.ep_pool.proofs.own_pool.give_all.Given as goal

abbrev pub invariant-loop-one : goal.invariant-loop-one
invariant-loop-one l =
    record {
      free : IsFree l.total l.free;
      count : min l.total (vec_len l.free + length l.left) ≡ min l.total (vec_len l.fn.free + length l.fn.chain);
    }

abbrev pub decreases-loop-one : goal.decreases-loop-one
decreases-loop-one l = length l.left
