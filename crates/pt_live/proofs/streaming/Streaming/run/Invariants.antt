use Rattle.std.proofs.Common.{◌≡◌}
use Rattle.pt_live.proofs.streaming.Streaming.run.Given as goal

-- a sweep changes nothing of it
abbrev pub invariant-loop : goal.invariant-loop
invariant-loop g l = l.stream ≡ l.initial.stream
