use Rattle.std.proofs.Common.{◌≡◌}
use Rattle.ep_registry.specs.Registered.{AreMarked}
use Rattle.ep_registry.proofs.registry.meet_roles.Given as goal

-- the marks stay, and the roles so far have met theirs
abbrev pub invariant-loop-role : goal.invariant-loop-role
invariant-loop-role g l = (l.marks ≡ l.fn.marks) × AreMarked l.fn.marks l.yielded
