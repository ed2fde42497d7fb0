-- So far the threads before this one fit their places.
use Rattle.std.proofs.Common.{◌^◌, ◌<◌, take}
use Rattle.std.specs.List.{AllByRecursion}
use Rattle.nt_write.proofs.writer.threads_fit.Given as goal

abbrev pub invariant-loop-thread : goal.invariant-loop-thread
invariant-loop-thread l = AllByRecursion (λ thread. (thread.0 < 2 ^ 64) × (thread.1 < 2 ^ 32)) (take l.thread-index l.threads)
