use Rattle.std.proofs.Common.{◌≡◌, ◌++◌, take}
use Rattle.ep_plan.proofs.words.names.put_name.Given as goal

abbrev pub invariant-loop-unit : goal.invariant-loop-unit
invariant-loop-unit l = l.out.items ≡ l.initial.out.items ++ take l.unit-index l.name
