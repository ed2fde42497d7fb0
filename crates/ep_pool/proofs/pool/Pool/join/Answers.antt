use Rattle.std.proofs.Common.{length, sym, subst, arith}
use Rattle.ep_pool.specs.Deals.{IsStaked, Moment}
use Rattle.ep_pool.proofs.Dealings.{joins, joined_staked, learns, few_joined}
use Rattle.ep_pool.proofs.pool.Pool.join.Goals as goal

pub absorb-requires-clause-rule : goal.absorb-requires-clause-rule
absorb-requires-clause-rule c = joins _ _ _ _ c.seat.invariant.1 c.other.invariant.1

pub learn_as-requires-clause-rule : goal.learn_as-requires-clause-rule
learn_as-requires-clause-rule c =
    learns _ _ (subst IsStaked (sym c.absorb.ensures.rule) (joined_staked _ _ c.seat.invariant.1 c.other.invariant.1))

pub overflow_add-seat : goal.overflow_add-seat
overflow_add-seat c =
    let learned = c.learn_as.ensures.rule in
    let moment = subst (λ k. Moment k (length learned.0)) c.absorb.ensures.rule learned.1 in
    let few = few_joined _ _ _ c.seat.invariant.1 c.other.invariant.1 moment in
    omega (arith, few, c.seat.invariant.2, c.other.invariant.2, c.seat.invariant.5)
