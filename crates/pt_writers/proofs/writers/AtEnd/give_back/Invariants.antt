use Rattle.std.proofs.Common.{◌≡◌, ℕ, ◌≤◌, length}
use Rattle.std.specs.Prelude.{map, vec_len, vec_capacity}
use Rattle.std.specs.List.{range_with_len}
use Rattle.ep_live.specs.Made.{AreStands}
use Rattle.pt_writers.proofs.Load.{row-of}
use Rattle.pt_writers.proofs.writers.AtEnd.give_back.Given as goal

-- the rows and the halves so far
abbrev pub invariant-loop-writer : goal.invariant-loop-writer
invariant-loop-writer g l =
    record {
      number : l.number ≡ length l.yielded;
      rows : l.rows.items ≡ map (λ (t : ℕ). row-of g.P.SampleRun.plan.writes t) (range_with_len 1 l.number);
      count : vec_len l.halves ≡ l.number;
      row_count : vec_len l.rows ≡ l.number;
      room : vec_capacity l.initial.halves ≤ vec_capacity l.halves;
      row_room : vec_capacity l.initial.rows ≤ vec_capacity l.rows;
      each : AreStands g.P.SampleRun.plan.writes l.halves.items;
    }
