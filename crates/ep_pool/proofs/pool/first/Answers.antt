use Rattle.std.proofs.Common.{arith}
use Rattle.ep_pool.proofs.Dealings.{births}
use Rattle.ep_pool.proofs.pool.first.Goals as goal

pub another-requires-clause-rule : goal.another-requires-clause-rule
another-requires-clause-rule g c = births _ _ _ _ c.requires.unborn (omega (arith, c.requires.numbers.1, c.requires.some))
