-- The threads in front of this place were read.
use Rattle.std.proofs.Common.{◌-◌, drop}
use Rattle.nt_blocks.proofs.TakeLists.{GoingThreads}
use Rattle.nt_blocks.proofs.take.take_threads.Given as goal

abbrev pub invariant-loop : goal.invariant-loop
invariant-loop l = GoingThreads l.count l.bytes (l.count - l.counter) l.here (drop l.here l.bytes) l.threads.items
