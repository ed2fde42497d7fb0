use Rattle.std.proofs.Common.{◌-◌}
use Rattle.pt_roles.specs.Writers.{StandsAt}
use Rattle.pt_roles.proofs.writers.Writer.run.Given as goal

abbrev pub invariant-loop-life : goal.invariant-loop-life
invariant-loop-life g l =
    StandsAt g.P.World.world.plan g.P.World.world.options.lives l.number (l.life - 1) g.P.World.world.plan.writes l.life l.self
