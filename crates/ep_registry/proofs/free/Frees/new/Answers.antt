use Rattle.ep_table.specs.declared.limits.TheConstants.{SLOTS}
use Rattle.ep_registry.proofs.Fills.{all-there}
use Rattle.ep_registry.proofs.free.Frees.new.Goals as goal

pub returns : goal.returns
returns g c = rw c.in_ok-places.ensures (all-there c.args.free.items SLOTS c.requires.all)
