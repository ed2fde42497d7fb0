use Rattle.std.proofs.Common.{rules, arith, ap}
use Rattle.ep_locks.proofs.Turns.{tries_again}
use Rattle.ep_locks.proofs.locks.Locks.wait_for.Goals as goal

pub overflow_mul-word : goal.overflow_mul-word
overflow_mul-word g c = let count = ap (λ r. r.count) c.self.view_is in omega arith

pub swap-requires : goal.swap-requires
swap-requires g c = let count = ap (λ r. r.count) c.self.view_is in (search rules, omega arith, tries_again g.P.Guards.holds _ _ _ _ _ (omega arith) c.loop.invariant.2)
