use Rattle.std.proofs.Common.{◌≡◌, ◌+◌, ◌-◌}
use Rattle.pt_roles.specs.Writers.{IsAt, drafted, drafts_from}
use Rattle.pt_roles.proofs.writers.Writer.write_life.Given as goal

abbrev pub invariant-loop-index : goal.invariant-loop-index
invariant-loop-index g l =
    record {
      at : IsAt g.P.World.world.plan l.number l.life l.index l.self.half;
      drafts : l.self.drafts ≡ drafts_from g.P.World.world.plan l.number (l.life + 1) (g.P.World.world.options.lives - (l.life + 1));
      draft : l.draft ≡ drafted g.P.World.world.plan l.number l.life;
    }
