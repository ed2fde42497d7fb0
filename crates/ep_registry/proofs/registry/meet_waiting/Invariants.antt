use Rattle.std.proofs.Common.{◌≡◌}
use Rattle.ep_registry.specs.Held.{NoneWaits}
use Rattle.ep_registry.proofs.registry.meet_waiting.Given as goal

-- the halves stay, and no session waited so far
abbrev pub invariant-loop-place : goal.invariant-loop-place
invariant-loop-place g l = (l.holds ≡ l.fn.holds) × NoneWaits l.yielded
