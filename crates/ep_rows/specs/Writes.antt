-- What the calls of threads make of rows that are told: the change of that row, slot or pool, and of nothing else (this
-- project's profile).
use Rattle.std.specs.Prelude.{◌≡◌, ℕ, ◌==◌, true, false, if◌then◌else◌, Some}
use Rattle.ep_defs.specs.declared.session.Write.{Write}
use Rattle.ep_pool.specs.Counts.{PoolCounts}
use Rattle.ep_slot.specs.declared.shown.Shown.{Shown}
use Rattle.ep_slot.specs.Slot.{SlotState, is_refused}
use Rattle.ep_row.specs.Row.{RowState, with_begin}
use Rattle.ep_row.specs.AtRest.{KeepsRest, KeepsRestWith, KeepsRestAnew, KeepsSlotRest}
use Rattle.ep_stream.specs.Rows.{IsSetAt, IsSame}
use Rattle.ep_stream.specs.Steps.{ToldRows, ChangesRow}
use Rattle.ep_rows.specs.Shows.{ShowsRow, ShowsWrite, shown_slot}

-- One row changes in this way, and nothing else.
pub record ChangesAlone (row : ℕ) (Changes : RowState → RowState → Type 0) (old new : ToldRows) : Type 0 where
  pub rows : ChangesRow row Changes old new
  pub slots : IsSame old.slot new.slot
  pub pools : (s : ℕ) → new.pool s ≡ old.pool s

-- A write begins on the row.
pub record BeginsRow (stamp : ℕ) (write : Write) (old new : RowState) : Type 0 where
  pub row : new ≡ with_begin old stamp write
  pub rest : KeepsRestWith write old new

-- The row begins this write, and nothing else changes.
abbrev pub Begins : ℕ → ℕ → Write → ToldRows → ToldRows → Type 0
Begins row stamp write old new = ChangesAlone row (BeginsRow stamp write) old new

-- The write ends.
pub record EndsRow (old new : RowState) : Type 0 where
  pub row : new ≡ record old { in_write = false }
  pub rest : KeepsRest old new

-- The row ends its write, and nothing else changes.
abbrev pub Ends : ℕ → ToldRows → ToldRows → Type 0
Ends row old new = ChangesAlone row EndsRow old new

-- The row's thread makes no more writes.
pub record LeavesRow (old new : RowState) : Type 0 where
  pub row : new ≡ record old { left = true }
  pub rest : KeepsRest old new

-- The thread of the row leaves, and nothing else changes.
abbrev pub Leaves : ℕ → ToldRows → ToldRows → Type 0
Leaves row old new = ChangesAlone row LeavesRow old new

-- Another thread takes the row.
pub record EntersRow (thread : ℕ) (old new : RowState) : Type 0 where
  pub row : new ≡ record old { thread = thread; index = 0; left = false }
  pub rest : KeepsRestAnew old new

-- A thread comes to the row, and nothing else changes.
abbrev pub Enters : ℕ → ℕ → ToldRows → ToldRows → Type 0
Enters row thread old new = ChangesAlone row (EntersRow thread) old new

-- The row's write is shown to the session in a slot, which keeps or refuses it.
pub record Shows (row slot : ℕ) (write : Write) (shown : Shown) (old new : ToldRows) : Type 0 where
  pub buffer : SlotState
  pub was : old.slot row slot ≡ Some buffer
  pub rows : ChangesRow row (ShowsRow slot (shown_slot (is_refused shown) buffer (old.row row).stamp write)) old new
  pub slots : IsSetAt row slot (Some (shown_slot (is_refused shown) buffer (old.row row).stamp write)) old.slot new.slot
  pub pool : ShowsWrite write shown buffer (old.pool slot) (new.pool slot)
  pub pools : (s : ℕ) → (s ≡ slot → ⊥) → new.pool s ≡ old.pool s
  pub rest : KeepsSlotRest (old.row row) slot write buffer (shown_slot (is_refused shown) buffer (old.row row).stamp write)

-- The slot has this pool, and every other its own.
pub record SetsPool (slot : ℕ) (pool : PoolCounts) (old new : ToldRows) : Type 0 where
  pub rows : (r : ℕ) → new.row r ≡ old.row r
  pub slots : IsSame old.slot new.slot
  pub pools : (s : ℕ) → new.pool s ≡ (if s == slot then pool else old.pool s)
