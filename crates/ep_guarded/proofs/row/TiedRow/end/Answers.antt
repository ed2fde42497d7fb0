use Rattle.ep_guarded.proofs.Resting.{row-ended}
use Rattle.ep_guarded.proofs.row.TiedRow.end.Goals as goal

pub invariant_of-self : goal.invariant_of-self
invariant_of-self g c = row-ended _ _ _ _ c.self.inside.row c.end.new.self _ _ c.self.invariant c.end.ensures.rest c.end.ensures.row
