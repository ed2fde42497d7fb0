use Rattle.std.proofs.Common.{◌≡◌, ℕ, vec_len, Some}
use Rattle.std.specs.Prelude.{slice_get}
use Rattle.ep_lock_tests.proofs.tests.locks.counters.Given as goal

-- the counters so far stand at their numbers
abbrev pub invariant-loop-number : goal.invariant-loop-number
invariant-loop-number l = (vec_len l.made ≡ l.number) × ((k : ℕ) (counter : _) → slice_get l.made.items k ≡ Some counter → counter.number ≡ k)
