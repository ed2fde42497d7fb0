use Rattle.std.proofs.Common.{◌≡◌, ◌++◌, ◌∷◌, take}
use Rattle.std.specs.List.{flat_map}
use Rattle.pt_print.specs.Printed.{unit_text}
use Rattle.pt_print.proofs.put_units.Given as goal

abbrev pub invariant-loop-unit : goal.invariant-loop-unit
invariant-loop-unit l = l.out.items ≡ l.fn.out.items ++ 32 ∷ flat_map unit_text (take l.unit-index l.units)
