use Rattle.std.proofs.Common.{◌≡◌, ◌+◌, ◌*◌, ◌++◌, take, vec_len, vec_capacity}
use Rattle.pt_num.specs.Texts.{units_bytes}
use Rattle.ipc_body.proofs.asking.push_text.Given as goal

abbrev pub invariant-loop-unit : goal.invariant-loop-unit
invariant-loop-unit l =
    (l.out.items ≡ l.initial.out.items ++ units_bytes (take l.unit-index l.units))
    × (vec_len l.out ≡ vec_len l.initial.out + 2 * l.unit-index)
    × (vec_capacity l.out ≡ vec_capacity l.initial.out)
