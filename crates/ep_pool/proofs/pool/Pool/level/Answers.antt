use Rattle.std.proofs.Common.{sym, ap, ◌∙◌}
use Rattle.ep_pool.proofs.Dealings.{levels}
use Rattle.ep_pool.proofs.pool.Pool.level.Goals as goal

pub another-requires-clause-rule : goal.another-requires-clause-rule
another-requires-clause-rule c =
    let taken = ap (λ s. s.taken) c.seat.view_is in
    let given = ap (λ s. s.given) c.seat.view_is in
    levels _ _ c.seat.invariant.1 (taken ∙ c.requires.equal ∙ sym given)
