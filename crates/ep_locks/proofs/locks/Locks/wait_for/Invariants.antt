use Rattle.std.proofs.Common.{◌≡◌, ◌≢◌, []}
use Rattle.ep_locks.proofs.locks.Locks.wait_for.Given as goal

abbrev pub invariant-loop : goal.invariant-loop
invariant-loop g l = (l.place.table_id ≡ l.initial.place.table_id) × (l.place.me.1 ≡ []) × (l.claim ≢ 0)
