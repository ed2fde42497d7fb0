use Rattle.std.proofs.Common.{◌≡◌}
use Rattle.pt_client.proofs.greeting.first.Given as goal

-- nobody came so far
abbrev pub invariant-loop : goal.invariant-loop
invariant-loop g l = record {
  greeting : g.D.Dock.greeting l.dock ≡ g.D.Dock.greeting l.initial.dock;
  none : g.D.Dock.arrivals l.dock ≡ g.D.Dock.arrivals l.initial.dock;
  sound : g.D.Dock.dock_faults l.dock ≡ g.D.Dock.dock_faults l.initial.dock;
}
