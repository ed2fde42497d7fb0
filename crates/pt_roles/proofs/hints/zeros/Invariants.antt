use Rattle.std.proofs.Common.{◌≡◌, vec_len}
use Rattle.pt_roles.proofs.hints.zeros.Given as goal

abbrev pub invariant-loop-made : goal.invariant-loop-made
invariant-loop-made l = vec_len l.zeros ≡ l._made
