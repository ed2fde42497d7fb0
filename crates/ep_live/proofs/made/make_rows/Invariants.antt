use Rattle.std.proofs.Common.{◌≡◌, length}
use Rattle.std.specs.Prelude.{vec_len}
use Rattle.ep_guarded.specs.Tied.{buffer_number, buffer_place}
use Rattle.ep_live.specs.Made.{AreRows, AreHandTies, AreBuffers}
use Rattle.ep_live.proofs.made.make_rows.Given as goal

abbrev pub invariant-loop-stand : goal.invariant-loop-stand
invariant-loop-stand g l =
    record {
      number : l.number ≡ length l.yielded;
      made : l.maker.made ≡ buffer_place g.P.Program.rows (buffer_number l.number 0);
      places : l.maker.places ≡ l.initial.maker.places;
      count : vec_len l.rows ≡ l.number;
      buffer_count : vec_len l.buffers ≡ buffer_number l.number 0;
      hand_count : vec_len l.hands ≡ buffer_number l.number 0;
      rows : AreRows l.rows.items;
      buffers : AreBuffers g.P.Program.rows l.buffers.items;
      hands : AreHandTies g.P.Program.rows l.hands.items;
    }
