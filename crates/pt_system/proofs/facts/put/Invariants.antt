use Rattle.std.proofs.Common.{◌≤◌, length}
use Rattle.pt_system.proofs.facts.put.Given as goal

-- the line so far has room for no more than it may have
abbrev pub invariant-loop-unit : goal.invariant-loop-unit
invariant-loop-unit l = length l.line.items ≤ l.most
