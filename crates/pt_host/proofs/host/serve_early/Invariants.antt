use Rattle.std.proofs.Common.{◌≡◌, true, false, None, Some}
use Rattle.pt_host.specs.Server.{HasTurned}
use Rattle.pt_host.proofs.host.serve_early.Given as goal

-- the turns so far
abbrev pub invariant-loop : goal.invariant-loop
invariant-loop g l =
    record {
      turned : HasTurned g.D.Dock true None l.initial.held.dock.now l.held.dock.now l.initial.desk.decider l.desk.decider;
      is_open : l.desk.decider.left ≡ false;
      stands : l.stands ≡ Some 0;
      greeting : g.D.Dock.greeting l.held.dock.now ≡ g.W.Process.greeting;
      same : l.held.dock.ghost_name ≡ l.initial.held.dock.ghost_name;
    }
