use Rattle.std.proofs.Common.{◌≡◌, ℕ, take}
use Rattle.nt_check.specs.state.Counting.{numbers_in, after_all, point_sightings, HasRooms}
use Rattle.nt_check.proofs.threads.Threads.see_point.Given as goal

abbrev pub invariant-loop-thread : goal.invariant-loop-thread
invariant-loop-thread l =
    record {
      numbers : (thread : ℕ) → numbers_in l.self thread ≡ after_all (numbers_in l.fn.self thread) (point_sightings thread (take l.thread-index l.threads));
      room : HasRooms l.threads l.self;
    }
