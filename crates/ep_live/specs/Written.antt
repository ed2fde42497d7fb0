-- What contracts say of what became of a write. All of it is this project's own.
use Rattle.std.specs.Prelude.{◌≡◌, ℕ, ◌+◌, ◌<◌, Option, Some}
use Rattle.std.specs.Int.{bit_at}
use Rattle.ep_defs.specs.declared.limits.TheConstants.{SESSIONS}
use Rattle.ep_defs.specs.declared.session.Write.{Write}
use Rattle.ep_slot.specs.declared.shown.Shown.{Shown}
use Rattle.ep_slot.specs.Slot.{is_refused}
use Rattle.ep_row.specs.Bits.{one_if}
use Rattle.ep_row.specs.Row.{RowState, slot_of, mask_of, opening_of}
use Rattle.ep_guarded.specs.declared.agreed.Agreed.{Agreed}
use Rattle.ep_guarded.specs.Tied.{KeptState, Answers, IsAnswered, stand_in}
use Rattle.ep_live.specs.declared.written.Written.{Written}

-- A write with this stamp was shown to what is open in this slot, which the row knew as it was and knows as it is now. The
-- slot's bit says whether it was refused.
pub record AnswersIn (slot stamp : ℕ) (write : Write) (refused : ℕ) (row new_row : RowState) : Type 0 where
  pub shown : Shown
  pub old : KeptState
  pub new : KeptState
  pub knew : slot_of row slot ≡ Some (opening_of old.slot)
  pub answered : IsAnswered stamp write shown old new
  pub knows : slot_of new_row slot ≡ Some (opening_of new.slot)
  pub bit : bit_at refused slot ≡ one_if (is_refused shown)

-- The row's write was shown in this slot to what is open in a buffer that has gone back behind its lock.
pub record AnswersBehind (slot : ℕ) (write : Write) (shown : Shown) (row new_row : RowState) : Type 0 where
  pub old : KeptState
  pub new : KeptState
  pub is : Answers slot write shown row new_row old new

-- Nothing was shown in this slot.
pub record IsPassedOver (slot refused : ℕ) (row new_row : RowState) : Type 0 where
  pub same : slot_of new_row slot ≡ slot_of row slot
  pub bit : bit_at refused slot ≡ 0

-- The row's write was shown in each slot that was due and is not due any more, and in no other.
pub record AreAnswered (write : Write) (refused : ℕ) (row new_row : RowState) : Type 0 where
  pub seen : (slot : ℕ) → slot < SESSIONS → bit_at row.due slot ≡ 1 → bit_at new_row.due slot ≡ 0 → AnswersIn slot row.stamp write refused row new_row
  pub others : (slot : ℕ) → slot < SESSIONS → bit_at new_row.due slot ≡ bit_at row.due slot → IsPassedOver slot refused row new_row
  pub left : (slot : ℕ) → slot < SESSIONS → bit_at new_row.due slot ≡ 1 → bit_at row.due slot ≡ 1

-- A row's thread made this write: it has the next number, was shown to each session that gets its event, and to no other.
pub record IsWritten (stamp : ℕ) (write : Write) (row new_row : RowState) (written : Written) : Type 0 where
  pub number : written.number ≡ row.index + 1
  pub shown : written.shown ≡ mask_of row write.event
  pub answers : (slot : ℕ) → slot < SESSIONS → bit_at written.shown slot ≡ 1 → AnswersIn slot stamp write written.refused row new_row
  pub others : (slot : ℕ) → slot < SESSIONS → bit_at written.shown slot ≡ 0 → IsPassedOver slot written.refused row new_row

-- The thread whose half told this made the write, on a row that has gone back behind its lock.
pub record IsWrittenBehind (stamp : ℕ) (write : Write) (value : Option Agreed) (written : Written) : Type 0 where
  pub row : RowState
  pub stood : stand_in value ≡ Some (record { thread = row.thread; index = row.index })
  pub new_row : RowState
  pub is : IsWritten stamp write row new_row written

-- The row's thread made the write, and the row has gone back behind its lock.
pub record IsWrittenFrom (stamp : ℕ) (write : Write) (row : RowState) (written : Written) : Type 0 where
  pub new_row : RowState
  pub is : IsWritten stamp write row new_row written
