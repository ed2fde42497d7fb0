use Rattle.std.proofs.Common.{◌≡◌, ◌+◌, subst, arith}
use Rattle.ep_pool.specs.Shared.{SeatState}
use Rattle.ep_pool.proofs.Dealings.{learns, counted}
use Rattle.ep_pool.proofs.pool.Pool.free.Goals as goal

pub len_as-requires-clause-rule : goal.len_as-requires-clause-rule
len_as-requires-clause-rule g c = learns _ _ c.seat.invariant.1

pub overflow_cast-result : goal.overflow_cast-result
overflow_cast-result g c = omega (arith, c.len_as.ensures.rule.0, c.self.invariant.0, c.self.invariant.1)

pub returns-clause-all : goal.returns-clause-all
returns-clause-all g c =
    subst (λ (s : SeatState). s.share ≡ s.seats → c.len_as.result + s.taken ≡ s.total + s.given) c.seat.view_is
    (counted _ _ c.len_as.ensures.rule.1)
