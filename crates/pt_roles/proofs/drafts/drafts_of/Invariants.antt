use Rattle.std.proofs.Common.{◌≡◌, vec_len}
use Rattle.pt_roles.specs.Writers.{AreRowDrafts}
use Rattle.pt_roles.proofs.drafts.drafts_of.Given as goal

-- those of the rows so far
abbrev pub invariant-loop-number : goal.invariant-loop-number
invariant-loop-number l =
    record { count : vec_len l.drafts ≡ l.number; each : AreRowDrafts l.plan l.lives l.drafts.items }
