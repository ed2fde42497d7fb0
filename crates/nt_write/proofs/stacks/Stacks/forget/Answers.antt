use Rattle.nt_write.proofs.Bounds.{bounded-none}
use Rattle.nt_write.proofs.stacks.Stacks.forget.Goals as goal

pub invariant_of-self : goal.invariant_of-self
invariant_of-self c = bounded-none c.clear.new.self c.clear-2.new.self.items c.clear.ensures c.clear-2.ensures.items
