use Rattle.std.proofs.Common.{◌≤◌, length}
use Rattle.pt_system.specs.declared.facts.TheConstants.{LINE_UNITS}
use Rattle.pt_system.proofs.facts.command_line.Given as goal

-- the line so far is as long as it may be, and the words end
abbrev pub invariant-loop-word : goal.invariant-loop-word
invariant-loop-word g l =
    (goal.iterator-loop-word g).can_next l.word-iterator ×
    (goal.iterator-loop-word g).is_finite l.word-iterator ×
    (length l.line.items ≤ LINE_UNITS)
