use Rattle.std.proofs.Common.{◌≡◌, length}
use Rattle.ep_registry.specs.Places.{AreAt}
use Rattle.ep_registry_tests.proofs.tests.registry.numbers.Given as goal

-- the numbers so far
abbrev pub invariant-loop-slot : goal.invariant-loop-slot
invariant-loop-slot l = (length l.free.items ≡ l.slot) × AreAt (λ slot f. f ≡ slot) l.free.items
