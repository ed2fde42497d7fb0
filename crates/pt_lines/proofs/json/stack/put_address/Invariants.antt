-- What is left of the address is still to be put, its last byte first.
use Rattle.std.proofs.Common.{◌≡◌, ◌++◌, length}
use Rattle.std.specs.Prelude.{codes, reverse}
use Rattle.std.specs.List.{flat_map}
use Rattle.pt_lines.specs.Json.{byte_text}
use Rattle.pt_lines.proofs.json.stack.put_address.Given as goal

abbrev pub invariant-loop-left : goal.invariant-loop-left
invariant-loop-left l =
    l.out.items ++ flat_map byte_text (reverse l.left) ≡ (l.fn.out.items ++ codes "\"") ++ flat_map byte_text (reverse l.fn.frame)

abbrev pub decreases-loop-left : goal.decreases-loop-left
decreases-loop-left l = length l.left
