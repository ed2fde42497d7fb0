-- So far the threads before this one are put, and they fit their places.
use Rattle.std.proofs.Common.{◌≡◌, ◌^◌, ◌<◌, ◌++◌, take}
use Rattle.std.specs.List.{AllByRecursion, flat_map}
use Rattle.nt_blocks.specs.Bodies.{thread_bytes}
use Rattle.nt_blocks.proofs.put.append_point.Given as goal

abbrev pub invariant-loop-thread : goal.invariant-loop-thread
invariant-loop-thread l =
    (l.out.items ≡ l.initial.out.items ++ flat_map thread_bytes (take l.thread-index l.threads))
    × AllByRecursion (λ thread. (thread.0 < 2 ^ 64) × (thread.1 < 2 ^ 32)) (take l.thread-index l.threads)
