use Rattle.ep_registry.proofs.Calls.{closed-tied}
use Rattle.ep_registry.proofs.registry.Registry.close.Goals as goal

pub invariant_of-self : goal.invariant_of-self
invariant_of-self g c =
    record {
      tied = rw (c.put_mark.ensures.marks, c.meet_mark.ensures.same.1) (closed-tied _ c.self.invariant.tied);
      free = c.self.invariant.free;
      over = c.self.invariant.over;
      gone = c.self.invariant.gone;
    }
