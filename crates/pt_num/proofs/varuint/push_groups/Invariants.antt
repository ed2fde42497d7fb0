-- What is put so far, and then the groups of what is left, are the groups of the value.
use Rattle.std.proofs.Common.{◌≡◌, ◌+◌, ◌++◌, length, vec_len, vec_capacity}
use Rattle.std.specs.Int.{w64}
use Rattle.pt_num.specs.Numbers.{short_var}
use Rattle.pt_num.proofs.Groups.{Remains}
use Rattle.pt_num.proofs.varuint.push_groups.Given as goal

abbrev pub invariant-loop-rest : goal.invariant-loop-rest
invariant-loop-rest l =
    Remains l.out.items (vec_len l.out) (vec_capacity l.initial.out) l.rest (l.initial.out.items ++ short_var w64 l.value)
    (vec_len l.initial.out + length (short_var w64 l.value))
    × (vec_capacity l.out ≡ vec_capacity l.initial.out)

abbrev pub decreases-loop-rest : goal.decreases-loop-rest
decreases-loop-rest l = l.rest
