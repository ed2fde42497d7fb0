-- The bytes in front of this place were read.
use Rattle.std.proofs.Common.{◌+◌, ◌-◌, ◌≤◌, ℕ, List, ◌++◌, length, take}
use Rattle.pt_report.specs.state.Read.{HasRead, used}
use Rattle.pt_report.proofs.reading.ReadingReads.take.Given as goal

abbrev pub invariant-loop-here : goal.invariant-loop-here
invariant-loop-here l =
    record {
      read : (bytes : List ℕ) → HasRead bytes l.fn.self → HasRead (bytes ++ take l.here l.piece) l.self;
      within : l.here ≤ length l.piece;
      used : used l.self ≤ used l.fn.self + l.here;
    }

abbrev pub decreases-loop-here : goal.decreases-loop-here
decreases-loop-here l = length l.piece - l.here
