use Rattle.pt_roles.specs.Serving.{FollowsRows, KeepsSession}
use Rattle.pt_roles.proofs.serving.follow.Given as goal

abbrev pub invariant-loop-number : goal.invariant-loop-number
invariant-loop-number g l =
    record {
      same : KeepsSession l.initial.stream l.stream;
      follows : FollowsRows g.W.Program.writes l.stream;
    }
