-- What is left of the text is still to be put.
use Rattle.std.proofs.Common.{◌≡◌, ◌++◌, length}
use Rattle.std.specs.Prelude.{codes}
use Rattle.std.specs.List.{flat_map}
use Rattle.ep_defs.specs.Text.{units_in}
use Rattle.pt_lines.specs.Texts.{text_unit}
use Rattle.pt_lines.proofs.text.put_text.Given as goal

abbrev pub invariant-loop-left : goal.invariant-loop-left
invariant-loop-left l =
    l.out.items ++ flat_map text_unit (units_in l.left) ≡ (l.fn.out.items ++ codes "\"") ++ flat_map text_unit (units_in l.fn.bytes)

abbrev pub decreases-loop-left : goal.decreases-loop-left
decreases-loop-left l = length l.left
