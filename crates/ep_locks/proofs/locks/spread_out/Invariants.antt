use Rattle.std.proofs.Common.{◌≡◌}
use Rattle.ep_locks.specs.Row.{spread}
use Rattle.ep_locks.proofs.locks.spread_out.Given as goal

abbrev pub invariant-loop-value : goal.invariant-loop-value
invariant-loop-value g l = l.slots.items ≡ spread l.yielded
