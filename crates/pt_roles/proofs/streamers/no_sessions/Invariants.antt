use Rattle.std.proofs.Common.{◌≡◌, vec_len}
use Rattle.pt_roles.proofs.streamers.no_sessions.Given as goal

abbrev pub invariant-loop-slot : goal.invariant-loop-slot
invariant-loop-slot g l = vec_len l.places ≡ l._slot
