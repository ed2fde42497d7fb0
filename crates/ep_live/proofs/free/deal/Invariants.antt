use Rattle.std.proofs.Common.{◌≡◌, length}
use Rattle.ep_live.specs.Free.{AreColumns}
use Rattle.ep_live.proofs.free.deal.Given as goal

abbrev pub invariant-loop-half : goal.invariant-loop-half
invariant-loop-half g l =
    record {
      number : l.number ≡ length l.yielded;
      columns : AreColumns l.number l.columns.items;
    }
