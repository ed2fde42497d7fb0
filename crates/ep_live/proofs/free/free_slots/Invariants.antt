use Rattle.std.proofs.Common.{◌≡◌, length}
use Rattle.std.specs.Prelude.{vec_len}
use Rattle.ep_live.specs.Made.{AreSlots}
use Rattle.ep_live.proofs.free.free_slots.Given as goal

abbrev pub invariant-loop-column : goal.invariant-loop-column
invariant-loop-column g l =
    record {
      count : vec_len l.slots ≡ length l.yielded;
      slots : AreSlots l.slots.items;
    }
