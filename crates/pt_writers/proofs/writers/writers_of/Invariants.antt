use Rattle.std.proofs.Common.{◌≡◌, ◌≤◌, length}
use Rattle.std.specs.Prelude.{vec_len, vec_capacity}
use Rattle.pt_writers.specs.state.Writers.{AreReady}
use Rattle.pt_writers.proofs.writers.writers_of.Given as goal

-- the writers so far
abbrev pub invariant-loop-half : goal.invariant-loop-half
invariant-loop-half g l =
    record {
      count : vec_len l.writers ≡ length l.yielded;
      room : vec_capacity l.initial.writers ≤ vec_capacity l.writers;
      each : AreReady g.P.SampleRun.plan 0 l.writers.items;
    }
