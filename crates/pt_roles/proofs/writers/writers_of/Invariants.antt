use Rattle.std.proofs.Common.{◌≡◌, ◌≤◌, length}
use Rattle.std.specs.Prelude.{vec_len, vec_capacity}
use Rattle.pt_roles.specs.Writers.{HaveYetToWrite}
use Rattle.pt_roles.proofs.writers.writers_of.Given as goal

-- the writers so far
abbrev pub invariant-loop-half : goal.invariant-loop-half
invariant-loop-half g l =
    record {
      count : vec_len l.writers ≡ length l.yielded;
      room : vec_capacity l.initial.writers ≤ vec_capacity l.writers;
      each : HaveYetToWrite g.P.World.world.plan g.P.World.world.options.lives l.writers.items;
    }
