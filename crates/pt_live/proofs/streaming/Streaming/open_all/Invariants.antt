use Rattle.std.proofs.Common.{◌≡◌, Some}
use Rattle.pt_live.specs.state.Open.{IsOpenOn}
use Rattle.pt_live.proofs.streaming.Streaming.open_all.Given as goal

-- the session is open on the rows so far
abbrev pub invariant-loop-place : goal.invariant-loop-place
invariant-loop-place g l =
    record {
      is_open : IsOpenOn g.P.TraceRun.run g.P.Program.rows 0 l.place l.stream;
      stands : l.stream.stands ≡ Some 0;
      marks : l.stream.marks ≡ l.initial.stream.marks;
    }
