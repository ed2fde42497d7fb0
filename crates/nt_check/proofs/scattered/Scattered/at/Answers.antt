use Rattle.std.specs.Ordering.{nat_cmp}
use Rattle.std.specs.BTreeMap.{get}
use Rattle.nt_check.proofs.Apart.{at-value}
use Rattle.nt_check.proofs.scattered.Scattered.at.Goals as goal

pub returns : goal.returns
returns g c =
    at-value (get nat_cmp c.self.inside.places) c.self.inside.values.items c.args.self.now c.args.place c.index.result.now c.self.view_is c.self.invariant c.index.ensures
