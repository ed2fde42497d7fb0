use Rattle.std.proofs.Common.{◌≡◌, ◌++◌, take}
use Rattle.std.specs.Prelude.{codes}
use Rattle.std.specs.List.{flat_map}
use Rattle.pt_lines.specs.Texts.{text_unit}
use Rattle.pt_lines.proofs.text.put_quoted.Given as goal

abbrev pub invariant-loop-unit : goal.invariant-loop-unit
invariant-loop-unit l = l.out.items ≡ (l.fn.out.items ++ codes "\"") ++ flat_map text_unit (take l.unit-index l.units)
