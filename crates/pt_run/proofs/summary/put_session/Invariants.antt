-- The lines so far.
use Rattle.std.proofs.Common.{◌≡◌, ◌++◌, take}
use Rattle.std.specs.List.{flat_map}
use Rattle.pt_run.specs.Summary.{mark_line, session_line}
use Rattle.pt_run.proofs.summary.put_session.Given as goal

abbrev pub invariant-loop-mark : goal.invariant-loop-mark
invariant-loop-mark l =
    l.text.items ≡ l.fn.text.items ++ session_line (record { id = l.id; marks = l.marks; fate = l.fn.fate }) ++ flat_map (mark_line l.id) (take l.mark-index l.marks)
