use Rattle.std.proofs.Common.{length}
use Rattle.pt_lines.proofs.Frames.{Framing}
use Rattle.pt_lines.proofs.json.stack.put_stack.Given as goal

abbrev pub invariant-loop-left : goal.invariant-loop-left
invariant-loop-left l = Framing l.fn.width l.fn.stack l.fn.out.items l.left l.is_first l.out.items

abbrev pub decreases-loop-left : goal.decreases-loop-left
decreases-loop-left l = length l.left
