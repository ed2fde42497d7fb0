use Rattle.std.proofs.Common.{◌≡◌}
use Rattle.pt_roles.proofs.streamers.Streamer.turn.Given as goal

abbrev pub invariant-loop-slot : goal.invariant-loop-slot
invariant-loop-slot g l = l.self ≡ l.initial.self
