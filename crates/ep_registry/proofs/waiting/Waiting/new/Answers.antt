use Rattle.std.proofs.Common.{None, Option}
use Rattle.std.proofs.lemmas.List.{length-replicate}
use Rattle.ep_table.specs.declared.limits.TheConstants.{SLOTS}
use Rattle.ep_registry.specs.declared.hold.Hold.{Hold}
use Rattle.ep_registry.proofs.Numbered.{in-slots-none}
use Rattle.ep_registry.proofs.waiting.Waiting.new.Goals as goal

pub invariant_of-result : goal.invariant_of-result
invariant_of-result g c = rw c.in_ok-places.ensures (length-replicate {A = Option Hold} SLOTS None, in-slots-none SLOTS)
