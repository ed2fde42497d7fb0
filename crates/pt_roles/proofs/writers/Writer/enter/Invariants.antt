use Rattle.std.proofs.Common.{◌≡◌}
use Rattle.pt_roles.proofs.writers.Writer.enter.Given as goal

abbrev pub invariant-loop : goal.invariant-loop
invariant-loop g l = l.self-inside ≡ l.initial.self-inside
