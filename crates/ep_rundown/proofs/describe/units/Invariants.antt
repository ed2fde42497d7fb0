use Rattle.std.proofs.Common.{◌≡◌}
use Rattle.ep_rundown.proofs.describe.units.Given as goal

abbrev pub invariant-loop-byte : goal.invariant-loop-byte
invariant-loop-byte l = l.units.items ≡ l.yielded
