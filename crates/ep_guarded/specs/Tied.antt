-- What contracts see of rows and buffers with their halves of ties. All of it is this project's own.
use Rattle.std.specs.Prelude.{ℕ, ◌+◌, ◌*◌, ◌≤◌, List, length, take, Option, None, Some, slice_get, slice_set}
use Rattle.std.specs.List.{All}
use Rattle.std.specs.Prelude.{◌≡◌, ◌≢◌, ◌⊎◌, ◌↔◌, true, IsTrue}
use Rattle.ep_defs.specs.declared.limits.TheConstants.{SESSIONS}
use Rattle.ep_defs.specs.declared.event.EventDef.{EventDef}
use Rattle.ep_defs.specs.declared.session.Config.{Config}
use Rattle.ep_defs.specs.declared.session.Marks.{Marks}
use Rattle.ep_defs.specs.declared.session.Write.{Write}
use Rattle.ep_model.specs.History.{admitted_from}
use Rattle.ep_defs.specs.Session.{fits}
use Rattle.ep_chunk.specs.Record.{Record}
use Rattle.ep_model.specs.Budget.{needs_chunk, record_size}
use Rattle.ep_pool.specs.Shared.{SeatState}
use Rattle.ep_slot.specs.declared.shown.Shown.{Shown}
use Rattle.ep_slot.specs.Slot.{SlotState, AreRising, shown_slot, with_steal, number_of, is_refused}
use Rattle.ep_slot.specs.Hand.{HandState}
use Rattle.ep_row.specs.AtRest.{write_of}
use Rattle.ep_row.specs.Bits.{one_if}
use Rattle.ep_row.specs.Row.{RowState, slot_of, opening_of}
use Rattle.ep_guarded.specs.declared.agreed.Told.{Told}
use Rattle.ep_guarded.specs.declared.agreed.Stand.{Stand}
use Rattle.ep_guarded.specs.declared.agreed.Agreed.{Agreed}
use Rattle.ep_guarded.specs.declared.agreed.Agreed.TheVariants as agreed
use Rattle.ep_guarded.specs.declared.grant.Grant.{Grant}

-- ---- what halves show

-- What a row and a buffer agree on, if a session is open there.
abbrev pub told_in : Option Agreed → Option Told
told_in (Some (agreed.Told told)) = Some told
told_in _ = None

-- The hand that a buffer agrees with, if a session is open there.
abbrev pub hand_in : Option Agreed → Option HandState
hand_in (Some (agreed.Held held)) = Some held.numbers
hand_in _ = None

-- What the session of this hand was granted.
abbrev pub grant_in : Option Agreed → Option Grant
grant_in (Some (agreed.Held held)) = Some held.grant.now
grant_in _ = None

-- How far the thread of a row has come.
abbrev pub stand_in : Option Agreed → Option Stand
stand_in (Some (agreed.Stand stand)) = Some stand
stand_in _ = None

-- How far the thread had come that has left its row.
abbrev pub left_in : Option Agreed → Option Stand
left_in (Some (agreed.Left stand)) = Some stand
left_in _ = None

-- ---- threads and their rows

-- The thread that a row serves in a life, both from 0: the threads of the first lives come first, by row.
unfoldable pub thread_of : ℕ → ℕ → ℕ → ℕ
thread_of rows number life = number + 1 + life * rows

-- The next thread of a row, which has made no write.
abbrev pub next_stand : ℕ → Stand → Stand
next_stand rows stand = record { thread = stand.thread + rows; index = 0 }

-- ---- numbers and places

-- The number of a buffer, by its row, from 0, and its slot.
abbrev pub buffer_number : ℕ → ℕ → ℕ
buffer_number row slot = row * SESSIONS + slot

-- Where a buffer's tie to its row stands, behind those of so many rows to their threads. The tie to its hand is the next.
abbrev pub buffer_place : ℕ → ℕ → ℕ
buffer_place rows number = rows + 2 * number

-- Where a buffer's tie to its hand stands.
abbrev pub hand_place : ℕ → ℕ → ℕ
hand_place rows number = buffer_place rows number + 1

-- A row: its number, from 0, its life, from 0, and itself.
pub record TiedRowState : Type 0 where
  pub number : ℕ
  pub life : ℕ
  pub row : RowState

-- The row changes in what is open on it, and in nothing else.
abbrev pub ChangesOpenings : TiedRowState → TiedRowState → Type 0
ChangesOpenings old new =
    new ≡ record old { row = record old.row { masks = new.row.masks; slots = new.row.slots } }

-- A session that is to be opened on the row in this life finds that it has left, or serves another life.
abbrev pub IsAway : ℕ → TiedRowState → Type 0
IsAway life state = (state.row.left ≡ true) ⊎ (state.life ≢ life)

-- The row serves this life, and its thread has begun so many writes.
abbrev pub IsDone : ℕ → ℕ → TiedRowState → Type 0
IsDone life writes state = (state.life ≡ life) × (state.row.index ≡ writes)

-- After so many writes of a list comes one of this event.
pub record IsNextOf (event : ℕ) (writes : List Write) (index : ℕ) : Type 0 where
  pub write : Write
  pub next : slice_get writes index ≡ Some write
  pub event_is : write.event ≡ event

-- What is open in a buffer: the session's slot on the row's thread, and a seat of the session's pool.
pub record KeptState : Type 0 where
  pub slot : SlotState
  pub seat : SeatState

-- A buffer: where its tie to its row stands, and what is open in it, if something is.
pub record BufferState : Type 0 where
  pub place : ℕ
  pub kept : Option KeptState

-- ---- what is shown

-- What became of a write that was shown with this stamp: it has the next number, and its record is kept, with the stamp,
-- or it is refused. It is refused exactly where the record needs a chunk and the seat counts one dry take more, which it
-- counts in no other case.
pub record IsAnswered (stamp : ℕ) (write : Write) (shown : Shown) (old new : KeptState) : Type 0 where
  pub number : number_of shown ≡ old.slot.used + 1
  pub refused : IsTrue (is_refused shown) ↔ (IsTrue (needs_chunk old.slot.pending (record_size write)) × (new.seat.dry ≡ old.seat.dry + 1))
  pub slot : new.slot ≡ shown_slot (is_refused shown) old.slot stamp write
  pub seat : new.seat ≡ record old.seat { taken = new.seat.taken; dry = old.seat.dry + one_if (is_refused shown) }

-- A row's write was shown in this slot to what is open there, which the row knew as it was and knows as it is now. So the
-- number is the one behind those of which the row knew.
pub record Answers (slot : ℕ) (write : Write) (shown : Shown) (row new_row : RowState) (old new : KeptState) : Type 0 where
  pub knew : slot_of row slot ≡ Some (opening_of old.slot)
  pub answered : IsAnswered row.stamp write shown old new
  pub knows : new_row.slots ≡ slice_set row.slots slot (Some (opening_of new.slot))

-- The same of what is open in a buffer.
pub record AnswersShow (slot : ℕ) (write : Write) (shown : Shown) (row new_row : RowState) (old new : Option KeptState) : Type 0 where
  pub one : KeptState
  pub was : old ≡ Some one
  pub next : KeptState
  pub now : new ≡ Some next
  pub is : Answers slot write shown row new_row one next

-- ---- what is stolen

-- All that was pending in a buffer was taken, up to the last number that was used, and nothing is pending.
pub record TakesAll (records : List Record) (last : ℕ) (old new : Option KeptState) : Type 0 where
  pub one : KeptState
  pub was : old ≡ Some one
  pub now : new ≡ Some (record one { slot = with_steal one.slot })
  pub all : records ≡ one.slot.records
  pub last_is : last ≡ one.slot.used

-- ---- what is taken with a hand

-- The hand after a batch of so many records and chunks.
abbrev pub hand_after : HandState → ℕ → ℕ → ℕ → HandState
hand_after hand records last chunks =
    record hand { taken = hand.taken + records; last = last; stolen = hand.stolen + chunks }

-- The records are the hand's thread's, their numbers lie above its last one and at most at this one, and each is of a
-- write that a thread can make.
pub record AreTaken (hand : HandState) (records : List Record) (last : ℕ) : Type 0 where
  pub of_thread : All (λ r. r.thread ≡ hand.thread) records
  pub rising : AreRising hand.last last records
  pub fit : All (λ r. IsTrue (fits (write_of r))) records

-- What the session had of the hand's thread once these records are taken with it, and the thread had made so many writes.
pub record AreMarks (hand : HandState) (records : List Record) (last to : ℕ) (marks : Marks) : Type 0 where
  pub thread : marks.thread ≡ hand.thread
  pub from : marks.from ≡ hand.from
  pub to_is : marks.to ≡ to
  pub taken : marks.taken ≡ hand.taken + length records
  -- the other numbers that were used are those of refused writes
  pub refused : marks.taken + marks.refused ≡ last

-- What was taken and what was refused is what the session gets of the thread's writes from the opening up to the closing.
pub record AreCounted (events : List EventDef) (writes : ℕ → List Write) (config : Config) (marks : Marks) : Type 0 where
  pub ordered : marks.from ≤ marks.to
  pub within : marks.to ≤ length (writes marks.thread)
  pub counted : marks.taken + marks.refused ≡ length (admitted_from events (Some config) marks.from (take marks.to (writes marks.thread)))
