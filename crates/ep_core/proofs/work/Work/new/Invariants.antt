use Rattle.std.proofs.Common.{◌≡◌, length}
use Rattle.ep_core.proofs.work.Work.new.Given as goal

abbrev pub invariant-loop-row : goal.invariant-loop-row
invariant-loop-row l = length l.begun.items ≡ l._row
