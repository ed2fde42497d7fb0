use Rattle.std.proofs.Common.{arith, ap}
use Rattle.ep_locks.proofs.Turns.{tries_first}
use Rattle.ep_locks.proofs.locks.Locks.take_place.Goals as goal

pub swap_new_seat-found-requires : goal.swap_new_seat-found-requires
swap_new_seat-found-requires g c = let count = ap (λ r. r.count) c.self.view_is in (omega arith, tries_first g.P.Guards.holds _ _ _ (omega arith) (λ e. omega arith))
