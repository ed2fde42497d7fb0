-- What stands before the rest was read.
use Rattle.std.proofs.Common.{◌≡◌, ℕ, ◌+◌, ◌≤◌, ◌++◌, List, length}
use Rattle.pt_replay.specs.Reading.{HasRead, used}
use Rattle.pt_replay.proofs.text.ReaderReads.take.Given as goal

abbrev pub invariant-lines : goal.invariant-lines
invariant-lines l =
    record {
      some : (bytes : List ℕ) × HasRead bytes l.self;
      read : (bytes : List ℕ) → HasRead bytes l.fn.self → (front : List ℕ) × (front ++ l.rest ≡ l.piece) × HasRead (bytes ++ front) l.self;
      counted : used l.self + length l.rest ≤ used l.fn.self + length l.piece;
    }

abbrev pub decreases-lines : goal.decreases-lines
decreases-lines l = length l.rest
