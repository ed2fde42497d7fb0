use Rattle.std.proofs.Common.{◌≡◌, ℕ, take}
use Rattle.nt_check.specs.state.Counting.{numbers_in, HasRooms}
use Rattle.nt_check.proofs.threads.Threads.make_rooms.Given as goal

abbrev pub invariant-loop-thread : goal.invariant-loop-thread
invariant-loop-thread l =
    record {
      same : (other : ℕ) → numbers_in l.self other ≡ numbers_in l.fn.self other;
      room : HasRooms (take l.thread-index l.threads) l.self;
    }
