use Rattle.std.proofs.Common.{◌≡◌, length}
use Rattle.ep_row_tests.proofs.tests.rows.opened_in_all_slots.Given as goal

abbrev pub invariant-loop-slot : goal.invariant-loop-slot
invariant-loop-slot g l = record { events : length l.row.masks ≡ 1 }
