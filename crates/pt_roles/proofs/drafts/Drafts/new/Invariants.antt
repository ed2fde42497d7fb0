use Rattle.std.proofs.Common.{◌≡◌, ◌-◌}
use Rattle.pt_roles.specs.Writers.{drafts_from}
use Rattle.pt_roles.proofs.drafts.Drafts.new.Given as goal

-- those of the last lives so far
abbrev pub invariant-loop-made : goal.invariant-loop-made
invariant-loop-made l = l.drafts.items ≡ drafts_from l.plan l.number (l.lives - l.made) l.made
