use Rattle.std.proofs.Common.{◌≡◌}
use Rattle.ep_live.specs.Live.{bits_set}
use Rattle.ep_live.specs.Written.{AreAnswered}
use Rattle.ep_live.proofs.live.Live.show_all.Given as goal

abbrev pub invariant-loop-slot : goal.invariant-loop-slot
invariant-loop-slot g l =
    record {
      others : l.row.row ≡ record l.initial.row.row { due = l.row.row.due; slots = l.row.row.slots };
      answers : AreAnswered l.write l.refused l.initial.row.row l.row.row;
      number : l.row.number ≡ l.initial.row.number;
    }

abbrev pub decreases-loop-slot : goal.decreases-loop-slot
decreases-loop-slot g l = bits_set 64 l.row.row.due
