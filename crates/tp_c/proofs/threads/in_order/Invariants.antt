-- The entries so far, and those to come.
use Rattle.std.proofs.Common.{◌≡◌, ◌++◌}
use Rattle.std.specs.BTreeSet.{keys}
use Rattle.nt_check.specs.state.Ids.{value_at}
use Rattle.tp_c.specs.Listed.{listed}
use Rattle.tp_c.proofs.threads.in_order.Given as goal

abbrev pub invariant-loop-thread : goal.invariant-loop-thread
invariant-loop-thread l =
    l.list.items ++ listed (value_at l.counts) l.thread-iterator ≡ listed (value_at l.counts) (keys l.threads)
