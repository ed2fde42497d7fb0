use Rattle.std.proofs.Common.{◌≡◌, ◌+◌, ◌++◌, take, length, vec_len, vec_capacity}
use Rattle.std.specs.List.{flat_map}
use Rattle.ipc_body.specs.Asking.{provider_bytes}
use Rattle.ipc_body.proofs.asking.push_providers.Given as goal

abbrev pub invariant-loop-rule : goal.invariant-loop-rule
invariant-loop-rule l =
    (l.out.items ≡ l.initial.out.items ++ flat_map provider_bytes (take l.rule-index l.rules))
    × (vec_len l.out ≡ vec_len l.initial.out + length (flat_map provider_bytes (take l.rule-index l.rules)))
    × (vec_capacity l.out ≡ vec_capacity l.initial.out)
