use Rattle.std.proofs.Common.{◌≡◌, ◌+◌}
use Rattle.ep_pool.proofs.pool.Pool.drain.Given as goal

-- so many chunks were taken
abbrev pub invariant-loop : goal.invariant-loop
invariant-loop g l = l.seat ≡ record l.fn.seat { taken = l.fn.seat.taken + l.counter }
