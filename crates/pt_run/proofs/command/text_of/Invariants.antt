-- The lines so far.
use Rattle.std.proofs.Common.{◌≡◌, ◌++◌, take, map}
use Rattle.std.specs.List.{flat_map}
use Rattle.pt_run.specs.Command.{told_of}
use Rattle.pt_run.specs.Summary.{plan_line, session_lines}
use Rattle.pt_run.proofs.command.text_of.Given as goal

abbrev pub invariant-loop-session : goal.invariant-loop-session
invariant-loop-session g l = l.text.items ≡ plan_line l.plan ++ flat_map session_lines (map told_of (take l.session-index l.live.sessions.items))
