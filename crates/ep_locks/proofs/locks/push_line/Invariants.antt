use Rattle.std.proofs.Common.{◌≡◌, ◌-◌, ◌∷◌, ◌++◌, Some, None}
use Rattle.std.specs.Prelude.{replicate}
use Rattle.ep_locks.proofs.locks.push_line.Given as goal

-- the value and the empty slots so far were added
abbrev pub invariant-loop-filled : goal.invariant-loop-filled
invariant-loop-filled g l = l.slots.items ≡ l.fn.slots.items ++ Some l.fn.value ∷ replicate (l._filled - 1) None
