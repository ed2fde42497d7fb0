use Rattle.std.proofs.Common.{◌≡◌, ℕ, Some}
use Rattle.std.specs.List.{AllByRecursion}
use Rattle.pt_stream.specs.State.{EndsAt}
use Rattle.pt_live.specs.state.Open.{IsOpenOn}
use Rattle.pt_live.proofs.streaming.Streaming.close_all.Given as goal

-- the session is closed on the rows so far
abbrev pub invariant-loop-place : goal.invariant-loop-place
invariant-loop-place g l =
    record {
      stands : l.stream.stands ≡ l.initial.stream.stands;
      is_open : IsOpenOn g.P.TraceRun.run g.P.Program.rows l.place l.opened l.stream;
      ends : (to : ℕ) → l.initial.stream.stands ≡ Some to → AllByRecursion (EndsAt to) l.initial.stream.marks → AllByRecursion (EndsAt to) l.stream.marks;
    }
