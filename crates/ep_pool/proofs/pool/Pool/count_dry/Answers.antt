use Rattle.ep_pool.proofs.Dealings.{dries}
use Rattle.ep_pool.proofs.pool.Pool.count_dry.Goals as goal

pub another-requires-clause-rule : goal.another-requires-clause-rule
another-requires-clause-rule c = dries _ _ c.seat.invariant.1
