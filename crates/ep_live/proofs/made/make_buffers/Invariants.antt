use Rattle.std.proofs.Common.{◌≡◌}
use Rattle.std.specs.Prelude.{vec_len}
use Rattle.ep_guarded.specs.Tied.{buffer_number, buffer_place}
use Rattle.ep_live.specs.Made.{AreRowTies, AreHandTies, AreBuffers}
use Rattle.ep_live.proofs.made.make_buffers.Given as goal

abbrev pub invariant-loop-slot : goal.invariant-loop-slot
invariant-loop-slot g l =
    record {
      made : l.maker.made ≡ buffer_place g.P.Program.rows (buffer_number l.number l.slot);
      places : l.maker.places ≡ l.initial.maker.places;
      count : vec_len l.lefts ≡ l.slot;
      buffer_count : vec_len l.buffers ≡ buffer_number l.number l.slot;
      hand_count : vec_len l.hands ≡ buffer_number l.number l.slot;
      lefts : AreRowTies g.P.Program.rows l.number l.lefts.items;
      buffers : AreBuffers g.P.Program.rows l.buffers.items;
      hands : AreHandTies g.P.Program.rows l.hands.items;
    }
