-- What holds of a slot that no session has. All of it is this project's own.
use Rattle.std.specs.Prelude.{◌≡◌, ℕ, ◌+◌, ◌-◌, ◌*◌, ◌/◌, ◌≤◌, ◌<◌, List, length, Some, slice_get}
use Rattle.ep_defs.specs.declared.limits.TheConstants.{SESSIONS, SESSION_THREADS, WRITES}
use Rattle.ep_pool.specs.Shared.{SeatState, IsSeatOf}
use Rattle.ep_tie.specs.Tied.{Tied}
use Rattle.ep_guarded.specs.declared.agreed.Agreed.{Agreed}
use Rattle.ep_guarded.specs.declared.grant.Grant.{Grant}
use Rattle.ep_live.specs.Made.{AreSlotTies}

-- The halves of the hands that are to come in this slot, one for each row.
pub record IsFree (rows slot : ℕ) (halves : List (Tied Agreed)) : Type 0 where
  pub within : slot + 1 ≤ SESSIONS
  pub count : length halves ≡ rows
  pub halves_are : AreSlotTies rows slot halves

-- The halves of the hands in a slot, of the first rows: the slot, and how many rows.
pub record ColumnState : Type 0 where
  pub slot : ℕ
  pub count : ℕ

-- There is a column for each slot, by number, and the halves of so many hands are dealt to them in turn.
pub record AreColumns (dealt : ℕ) (columns : List ColumnState) : Type 0 where
  pub count : length columns ≡ SESSIONS
  pub each : (k : ℕ) (column : ColumnState) → slice_get columns k ≡ Some column → column ≡ record { slot = k; count = (dealt + (SESSIONS - 1) - k) / SESSIONS }

-- What a session's rows leave at their end: its slot, what it was granted, and its pool's seat.
pub record EndedState : Type 0 where
  pub slot : ℕ
  pub grant : Grant
  pub seat : SeatState

-- The seat of the session's pool has all shares, and has given back each chunk that was taken.
pub record HasEnded (rows : ℕ) (ended : EndedState) : Type 0 where
  pub within : ended.slot < SESSIONS
  pub seat_is : IsSeatOf ended.grant.pool ended.seat
  pub share : ended.seat.share ≡ rows + 1
  pub seats : ended.seat.seats ≡ rows + 1
  pub given : ended.seat.taken ≡ ended.seat.given
  pub few : ended.seat.taken ≤ WRITES * SESSION_THREADS
