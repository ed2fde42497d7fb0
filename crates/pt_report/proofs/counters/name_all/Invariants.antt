use Rattle.std.proofs.Common.{ℕ, List, [], ◌++◌, map, take}
use Rattle.std.specs.Ordering.{nat_cmp}
use Rattle.pt_report.specs.state.Counts.{Counts}
use Rattle.pt_report.proofs.counters.name_all.Given as goal

abbrev pub invariant-loop-thread : goal.invariant-loop-thread
invariant-loop-thread l =
    (names : List ℕ) → Counts nat_cmp names [] l.fn.tally → Counts nat_cmp (names ++ map (λ thread. thread.0) (take l.thread-index l.threads)) [] l.tally
