use Rattle.std.proofs.Common.{◌≡◌, ◌≤◌}
use Rattle.ep_pool.specs.Shared.{IsSeatOf}
use Rattle.ep_row_tests.proofs.tests.pools.turns.Given as goal

-- as many chunks were taken as given, and at most one in each turn
abbrev pub invariant-loop : goal.invariant-loop
invariant-loop g l = IsSeatOf l.pool l.seat × (l.seat.taken ≡ l.seat.given) × (l.seat.taken ≤ l.counter)
