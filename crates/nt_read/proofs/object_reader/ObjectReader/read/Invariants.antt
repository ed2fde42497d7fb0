-- The units in front of this place were taken, and no object ended in them.
use Rattle.std.proofs.Common.{◌≡◌, ◌+◌, ◌-◌, ◌*◌, ◌≤◌, List, [], length}
use Rattle.ep_defs.specs.declared.item.Item.{Item}
use Rattle.nt_read.specs.Objects.{used}
use Rattle.nt_read.specs.state.Objects.{Comes}
use Rattle.nt_read.specs.state.Units.{turns_left}
use Rattle.nt_read.proofs.object_reader.ObjectReader.read.Given as goal

abbrev pub invariant-loop-here : goal.invariant-loop-here
invariant-loop-here g l =
    record {
      comes : (held : List Item) → g.T.Telling.tells l.fn.self.pending held → Comes g.T.Telling.tells l.fn.self held l.piece l.here l.self;
      within : l.here ≤ length l.piece;
      all : used l.self ≡ used l.fn.self + l.here;
      fault : l.self.fault ≡ l.fn.self.fault;
      none : g.T.Telling.tells l.told [];
    }

abbrev pub decreases-loop-here : goal.decreases-loop-here
decreases-loop-here g l = turns_left l.self.stage + 3 * (length l.piece - l.here)
