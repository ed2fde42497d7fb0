use Rattle.std.proofs.Common.{◌≡◌, vec_len}
use Rattle.pt_writers.specs.state.Writers.{AreDrafts}
use Rattle.pt_writers.proofs.writers.drafts_of.Given as goal

-- the drafts of the threads so far
abbrev pub invariant-loop-number : goal.invariant-loop-number
invariant-loop-number l = record { count : vec_len l.drafts ≡ l.number; each : AreDrafts l.plan l.drafts.items }
