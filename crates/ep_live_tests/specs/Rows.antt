-- What the tests know of the rows of a session that is open on both, or on none. All of it is this project's own.
use Rattle.std.specs.Prelude.{◌≡◌, ℕ, ◌==◌, if◌then◌else◌, length, Option, None, Some}
use Rattle.ep_slot.specs.Hand.{HandState}
use Rattle.ep_live.specs.RowSet.{LiveRowsState, expected_in, out_in}

-- The hands in slot 3 of rows 1 and 2.
abbrev pub two_hands : Option HandState → Option HandState → ℕ → ℕ → Option HandState
two_hands first second row slot =
    if slot == 3 then (if row == 1 then first else (if row == 2 then second else None)) else None

-- The hands are these, and no chunk is out.
pub record HasHands (first second : Option HandState) (set : LiveRowsState) : Type 0 where
  pub rows : length set.halves ≡ 2
  pub hands : (row slot : ℕ) → expected_in set row slot ≡ two_hands first second row slot
  pub given : (slot : ℕ) → out_in set slot ≡ 0

-- The session is open on both rows.
abbrev pub AreOpen : HandState → HandState → LiveRowsState → Type 0
AreOpen first second = HasHands (Some first) (Some second)

-- It is open nowhere.
abbrev pub AreClosed : LiveRowsState → Type 0
AreClosed = HasHands None None
