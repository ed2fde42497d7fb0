use Rattle.std.proofs.Common.{◌≡◌}
use Rattle.ep_live.proofs.live.Live.close_by.Given as goal

-- it is as it was
abbrev pub invariant-loop : goal.invariant-loop
invariant-loop g l =
    record {
      hand : l.hand ≡ l.initial.hand;
      half : l.half ≡ l.initial.half;
      seat : l.seat ≡ l.initial.seat;
    }
