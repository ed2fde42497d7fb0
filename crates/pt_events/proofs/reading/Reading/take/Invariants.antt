-- The bytes in front of this place were read, and what they tell was listed.
use Rattle.std.proofs.Common.{◌+◌, ◌-◌, ◌≤◌, ℕ, List, ◌++◌, length, take}
use Rattle.pt_lines.specs.Appends.{Appends}
use Rattle.pt_events.specs.state.Read.{HasRead, used}
use Rattle.pt_events.proofs.reading.Reading.take.Given as goal

abbrev pub invariant-loop-here : goal.invariant-loop-here
invariant-loop-here l =
    record {
      read : (bytes text : List ℕ) → HasRead l.fn.form bytes text l.fn.self
          → Appends (λ more. HasRead l.fn.form (bytes ++ take l.here l.piece) (text ++ more) l.self) l.fn.out.items l.out.items;
      within : l.here ≤ length l.piece;
      used : used l.self ≤ used l.fn.self + l.here;
    }

abbrev pub decreases-loop-here : goal.decreases-loop-here
decreases-loop-here l = length l.piece - l.here
