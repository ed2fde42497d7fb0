use Rattle.std.proofs.Common.{◌≡◌, false, None}
use Rattle.pt_host.specs.Server.{HasTurned}
use Rattle.pt_host.proofs.host.serve_late.Given as goal

-- the turns so far
abbrev pub invariant-loop : goal.invariant-loop
invariant-loop g l =
    record {
      turned : HasTurned g.D.Dock false None l.initial.held.dock.now l.held.dock.now l.initial.desk.decider l.desk.decider;
      is_open : l.desk.decider.left ≡ false;
      stands : l.stands ≡ None;
      greeting : g.D.Dock.greeting l.held.dock.now ≡ g.W.Process.greeting;
      same : l.held.dock.ghost_name ≡ l.initial.held.dock.ghost_name;
    }
