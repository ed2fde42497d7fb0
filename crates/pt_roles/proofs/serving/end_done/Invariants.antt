use Rattle.std.proofs.Common.{◌≡◌}
use Rattle.std.specs.List.{AllByRecursion}
use Rattle.pt_stream.specs.State.{IsDone, IsShut, is_complete}
use Rattle.pt_roles.specs.Serving.{KeepsSession}
use Rattle.pt_roles.proofs.serving.end_done.Given as goal

-- it is closed on the rows so far, whose threads had made all their writes
abbrev pub invariant-loop-number : goal.invariant-loop-number
invariant-loop-number g l =
    record {
      same : KeepsSession l.initial.stream l.stream;
      complete : is_complete l.stream ≡ is_complete l.initial.stream;
      done : AllByRecursion (IsDone g.W.Program.writes) l.stream.marks;
      shut : IsShut l.number l.stream;
    }
