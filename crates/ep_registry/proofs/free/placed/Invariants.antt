use Rattle.std.proofs.Common.{◌≡◌}
use Rattle.ep_registry.specs.Places.{each_some}
use Rattle.ep_registry.proofs.free.placed.Given as goal

-- the things so far are there
abbrev pub invariant-loop-thing : goal.invariant-loop-thing
invariant-loop-thing g l = l.places.items ≡ each_some l.yielded
