-- The lines so far.
use Rattle.std.proofs.Common.{◌≡◌, ◌++◌, take}
use Rattle.pt_watch.specs.Lines.{counted_lines, mark_lines}
use Rattle.pt_watch.proofs.command.text_of.Given as goal

abbrev pub invariant-loop-mark : goal.invariant-loop-mark
invariant-loop-mark l = l.text.items ≡ mark_lines (take l.mark-index l.marks)

abbrev pub invariant-loop-place : goal.invariant-loop-place
invariant-loop-place l = l.text.items ≡ mark_lines l.marks ++ counted_lines l.place l.counts
