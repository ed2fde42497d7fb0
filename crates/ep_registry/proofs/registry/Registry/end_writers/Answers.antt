use Rattle.std.proofs.Common.{refl}
use Rattle.ep_registry.proofs.Tied.{writers-tied}
use Rattle.ep_registry.proofs.registry.Registry.end_writers.Goals as goal

pub invariant_of-self : goal.invariant_of-self
invariant_of-self g c =
    record {
      tied = rw c.end_writers.ensures (writers-tied _ c.self.invariant.tied);
      free = rw c.end_writers.ensures c.self.invariant.free;
      over = rw c.end_writers.ensures c.self.invariant.over;
      gone = rw (c.end_writers.ensures, c.put.ensures) refl;
    }
