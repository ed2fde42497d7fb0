-- What the calls of a row make of the slot of one session (this project's profile).
use Rattle.std.specs.Prelude.{◌≡◌, ℕ, ◌+◌, ◌<◌, Bool, ◌↔◌, if◌then◌else◌, Option, Some, slice_set, length, IsTrue}
use Rattle.std.specs.List.{All}
use Rattle.ep_defs.specs.declared.session.Marks.{Marks}
use Rattle.ep_defs.specs.declared.session.Write.{Write}
use Rattle.ep_model.specs.Budget.{needs_chunk, chunks_begun, record_size}
use Rattle.ep_pool.specs.Counts.{PoolCounts}
use Rattle.ep_slot.specs.declared.shown.Shown.{Shown}
use Rattle.ep_slot.specs.Chain.{HasRecords, records_of}
use Rattle.ep_slot.specs.Hand.{HandState, hand_of}
use Rattle.ep_slot.specs.declared.shown.Batch.{Batch}
use Rattle.ep_stream.specs.Steps.{IsAllOf}
use Rattle.ep_rows.specs.declared.opened.Open.{Open}
use Rattle.ep_slot.specs.Slot.{SlotState, with_record, with_refusal, with_steal, marks_of, number_of, is_refused}
use Rattle.ep_row.specs.Bits.{ClearsBit}
use Rattle.ep_row.specs.Row.{RowState, HasOpen, opening_of}
use Rattle.ep_defs.specs.declared.limits.TheConstants.{WRITES}
use Rattle.ep_row.specs.AtRest.{KeepsRest, KeepsSlotRest}

-- A slot to which a write was shown, which it keeps or refuses.
abbrev pub shown_slot : Bool → SlotState → ℕ → Write → SlotState
shown_slot refused buffer stamp write = if refused then with_refusal buffer else with_record buffer stamp write

-- How many chunks the write took.
abbrev pub chunks_taken : Bool → SlotState → Write → ℕ
chunks_taken refused buffer write = if refused then 0 else chunks_begun buffer.pending (record_size write)

-- The row after it showed its write to the session in a slot.
pub record ShowsRow (slot : ℕ) (buffer : SlotState) (old new : RowState) : Type 0 where
  pub due : ClearsBit slot old.due new.due
  pub slots : new.slots ≡ slice_set old.slots slot (Some (opening_of buffer))
  pub others : new ≡ record old { due = new.due; slots = new.slots }
  pub known : HasOpen new slot buffer
  pub rest : KeepsRest old new

-- What became of the write: it has the next number, and is refused exactly where it needs a chunk and none is free.
pub record ShowsWrite (write : Write) (shown : Shown) (buffer : SlotState) (old new : PoolCounts) : Type 0 where
  pub number : number_of shown ≡ buffer.used + 1
  pub refused : IsTrue (is_refused shown) ↔ (IsTrue (needs_chunk buffer.pending (record_size write)) × (old.free ≡ 0))
  pub total : new.total ≡ old.total
  pub free : new.free + chunks_taken (is_refused shown) buffer write ≡ old.free

-- What is open on a row was shown the row's write.
pub record ShownIn (slot : ℕ) (write : Write) (shown : Shown) (row new_row : RowState) (pool new_pool : PoolCounts) (cell new_cell : Option Open) : Type 0 where
  pub opened : Open
  pub was : cell ≡ Some opened
  pub now : new_cell ≡ Some (record opened { slot = shown_slot (is_refused shown) opened.slot row.stamp write })
  pub row_is : ShowsRow slot (shown_slot (is_refused shown) opened.slot row.stamp write) row new_row
  pub pool_is : ShowsWrite write shown opened.slot pool new_pool
  pub rest : KeepsSlotRest row slot write opened.slot (shown_slot (is_refused shown) opened.slot row.stamp write)

-- What was pending in what is open on a row was taken with a hand.
pub record StolenIn (hand new_hand : HandState) (batch : Batch) (cell new_cell : Option Open) : Type 0 where
  pub opened : Open
  pub was : cell ≡ Some opened
  pub now : new_cell ≡ Some (record opened { slot = with_steal opened.slot })
  pub hand_is : new_hand ≡ hand_of (with_steal opened.slot)
  pub all : IsAllOf opened.slot (records_of batch.chain) batch.last (length batch.chain)
  pub filled : All HasRecords batch.chain

-- A write that is due on the row can be shown to what is open there.
pub record CanShow (row : RowState) (slot : ℕ) (pool : PoolCounts) (opened : Open) : Type 0 where
  pub known : HasOpen row slot opened.slot
  pub few : opened.slot.used < WRITES
  pub total : pool.total ≡ opened.slot.chunks

-- What was open on a row was closed with its hand.
pub record ClosedIn (hand : HandState) (batch : Batch) (marks : Marks) (row : RowState) (cell : Option Open) : Type 0 where
  pub opened : Open
  pub was : cell ≡ Some opened
  pub hand_is : hand ≡ hand_of opened.slot
  pub all : IsAllOf opened.slot (records_of batch.chain) batch.last (length batch.chain)
  pub marks_are : marks ≡ marks_of opened.slot row.index
  pub filled : All HasRecords batch.chain
