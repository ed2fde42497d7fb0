use Rattle.std.proofs.Common.{◌≡◌, Some}
use Rattle.pt_listen.specs.state.Hearing.{IsHearing}
use Rattle.pt_listen.proofs.hearing.Hearing.end.Given as goal

-- the rows on which it was closed
abbrev pub invariant-loop-place : goal.invariant-loop-place
invariant-loop-place g l =
    record {
      hearing : IsHearing g.K.Callback.has_heard g.P.Program.rows g.P.Program.events g.P.Program.writes g.P.WatchRun.config g.P.WatchRun.at_first l.writes l.place l.slot l.rows l.hands.items l.listener;
      stands : l.rows.stands ≡ Some l.writes;
    }
