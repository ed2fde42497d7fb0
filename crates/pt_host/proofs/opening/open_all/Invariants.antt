use Rattle.pt_host.proofs.Openings.{IsOpenTo}
use Rattle.pt_host.proofs.opening.open_all.Given as goal

-- the rows so far
abbrev pub invariant-loop-number : goal.invariant-loop-number
invariant-loop-number g l = IsOpenTo l.early g.W.Program.rows l.number l.initial.stream l.stream
