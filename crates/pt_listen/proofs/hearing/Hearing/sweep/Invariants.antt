use Rattle.std.proofs.Common.{◌*◌, ◌≤◌}
use Rattle.std.specs.Prelude.{◌^◌}
use Rattle.pt_listen.specs.state.Hearing.{IsHearing}
use Rattle.pt_listen.proofs.hearing.Hearing.sweep.Given as goal

-- what was heard so far
abbrev pub invariant-loop-place : goal.invariant-loop-place
invariant-loop-place g l =
    record {
      hearing : IsHearing g.K.Callback.has_heard g.P.Program.rows g.P.Program.events g.P.Program.writes g.P.WatchRun.config g.P.WatchRun.at_first 0 0 l.slot l.rows l.hands.items l.listener;
      few : l.taken ≤ l.place * 2 ^ 32;
    }
