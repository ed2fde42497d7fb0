use Rattle.std.proofs.Common.{◌≡◌, ◌+◌, ◌≤◌, take, length}
use Rattle.std.specs.List.{flat_map}
use Rattle.ipc_frame.specs.declared.limits.TheConstants.{MESSAGE_BYTES}
use Rattle.ipc_body.specs.Asking.{provider_bytes}
use Rattle.ipc_body.proofs.asking.collect_size.Given as goal

abbrev pub invariant-loop-rule : goal.invariant-loop-rule
invariant-loop-rule l = (l.size ≡ 33 + length (flat_map provider_bytes (take l.rule-index l.rules))) × (l.size ≤ MESSAGE_BYTES)
