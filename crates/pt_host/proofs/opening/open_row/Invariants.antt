use Rattle.std.proofs.Common.{◌≡◌}
use Rattle.pt_host.proofs.opening.open_row.Given as goal

abbrev pub invariant-loop : goal.invariant-loop
invariant-loop g l = l.stream ≡ l.initial.stream
