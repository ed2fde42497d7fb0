use Rattle.std.proofs.Common.{◌≡◌, ◌≤◌, length}
use Rattle.std.specs.Prelude.{map, vec_len, vec_capacity}
use Rattle.std.specs.List.{range_with_len}
use Rattle.pt_roles.specs.Writers.{AreAtEnd}
use Rattle.pt_roles.proofs.Load.{row-of}
use Rattle.pt_roles.proofs.writers.give_back.Given as goal

-- the rows and the halves so far
abbrev pub invariant-loop-writer : goal.invariant-loop-writer
invariant-loop-writer g l =
    record {
      number : l.number ≡ length l.yielded;
      rows : l.rows.items ≡ map (row-of g.P.World.world.plan g.P.World.world.options.lives) (range_with_len 0 l.number);
      count : vec_len l.halves ≡ l.number;
      row_count : vec_len l.rows ≡ l.number;
      room : vec_capacity l.initial.halves ≤ vec_capacity l.halves;
      row_room : vec_capacity l.initial.rows ≤ vec_capacity l.rows;
      each : AreAtEnd g.P.World.world.plan g.P.World.world.options.lives l.halves.items;
    }
