-- So far the threads are those of the first rows.
use Rattle.std.proofs.Common.{◌≡◌, ℕ, None, Some, if◌then◌else◌}
use Rattle.std.specs.BTreeMap.{get}
use Rattle.std.specs.Int.{is_in_range}
use Rattle.std.specs.Ordering.{nat_cmp}
use Rattle.ep_tables.proofs.tables.start.first_threads.Given as goal

abbrev pub invariant-loop-before : goal.invariant-loop-before
invariant-loop-before l =
    (t : ℕ) → get nat_cmp l.threads t ≡ (if is_in_range 1 l.before t then Some t else None)
