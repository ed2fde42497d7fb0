-- So many places have the threads that choose them.
use Rattle.std.proofs.Common.{◌≡◌, length}
use Rattle.ep_tables.proofs.Near.{AreFirst}
use Rattle.ep_tables.proofs.tables.start.first_near.Given as goal

abbrev pub invariant-loop-place : goal.invariant-loop-place
invariant-loop-place l = record {
  count : length l.near.items ≡ l.place;
  first : AreFirst l.near.items;
}
