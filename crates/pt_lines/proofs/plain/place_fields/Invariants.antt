use Rattle.std.proofs.Common.{◌≡◌, ◌≤◌, length}
use Rattle.pt_lines.proofs.Placing.{Fielded}
use Rattle.pt_lines.proofs.plain.place_fields.Given as goal

abbrev pub invariant-loop-left : goal.invariant-loop-left
invariant-loop-left l =
    Fielded l.fn.fields l.fn.payload l.left l.before l.start l.fn.end l.fn.text l.text
    × (l.before ≤ length l.fn.payload)
    × (l.start ≤ l.fn.end)
    × (length l.text ≡ length l.fn.text)

abbrev pub decreases-loop-left : goal.decreases-loop-left
decreases-loop-left l = length l.left
