use Rattle.std.proofs.Common.{◌≡◌}
use Rattle.pt_roles.proofs.streamers.Streamer.play.Given as goal

abbrev pub invariant-loop : goal.invariant-loop
invariant-loop g l = l.self ≡ l.initial.self
