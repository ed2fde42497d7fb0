use Rattle.std.proofs.Common.{◌≡◌}
use Rattle.pt_stream.specs.State.{IsShut, is_complete}
use Rattle.pt_roles.specs.Serving.{KeepsSession}
use Rattle.pt_roles.proofs.serving.end.Given as goal

-- it is closed on the rows so far
abbrev pub invariant-loop-number : goal.invariant-loop-number
invariant-loop-number g l =
    record {
      same : KeepsSession l.initial.stream l.stream;
      complete : is_complete l.stream ≡ is_complete l.initial.stream;
      shut : IsShut l.number l.stream;
    }
