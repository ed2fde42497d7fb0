use Rattle.std.proofs.Common.{ap, arith}
use Rattle.ep_pool.proofs.Dealings.{splits}
use Rattle.ep_pool.proofs.pool.Pool.split.Goals as goal

pub another-pass-requires-clause-rule : goal.another-pass-requires-clause-rule
another-pass-requires-clause-rule c =
    let share = ap (λ s. s.share) c.seat.view_is in
    splits _ _ c.seat.invariant.1 (omega (arith, share, c.requires.share))
