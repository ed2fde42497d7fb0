use Rattle.nt_write.proofs.Bounds.{bounded-none}
use Rattle.nt_write.proofs.stacks.Stacks.new.Goals as goal

pub invariant_of-result : goal.invariant_of-result
invariant_of-result c = bounded-none c.new.result c.new-2.result.items c.new.ensures c.new-2.ensures.items
