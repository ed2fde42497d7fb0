use Rattle.std.proofs.Common.{◌∙◌, ap, rules}
use Rattle.ep_chunk.specs.Record.{total_size}
use Rattle.ep_chunk.proofs.Holding.{used-is}
use Rattle.ep_chunk.proofs.chunk.Chunk.used.Goals as goal

pub returns-clause-used : goal.returns-clause-used
returns-clause-used c = let e = used-is _ _ c.self.invariant ∙ ap total_size c.self.view_is in search (rules, c.len.ensures)
