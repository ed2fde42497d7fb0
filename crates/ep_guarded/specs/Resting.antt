-- What holds of rows and buffers at any time. All of it is this project's own.
use Rattle.std.specs.Prelude.{◌≡◌, ℕ, ◌+◌, ◌≤◌, true, if◌then◌else◌, List, length, take, Option, None, Some, option_map, slice_get, IsTrue}
use Rattle.std.specs.Option.{ForSome}
use Rattle.std.specs.List.{All}
use Rattle.ep_defs.specs.declared.limits.TheConstants.{SESSIONS, WRITES}
use Rattle.ep_defs.specs.declared.event.EventDef.{EventDef}
use Rattle.ep_defs.specs.declared.session.Config.{Config}
use Rattle.ep_defs.specs.declared.session.Write.{Write}
use Rattle.ep_defs.specs.Session.{fits}
use Rattle.ep_pool.specs.Shared.{IsSeatOf}
use Rattle.ep_slot.specs.Hand.{hand_of}
use Rattle.ep_row.specs.Row.{RowState, opening_of, slot_of}
use Rattle.ep_row.specs.AtRest.{RowAtRest, SlotAtRest, write_of}
use Rattle.ep_tie.specs.Tied.{Tied}
use Rattle.ep_guarded.specs.declared.agreed.Told.{Told}
use Rattle.ep_guarded.specs.declared.agreed.Stand.{Stand}
use Rattle.ep_guarded.specs.declared.agreed.Agreed.{Agreed}
use Rattle.ep_guarded.specs.declared.agreed.Agreed.TheVariants as agreed
use Rattle.ep_guarded.specs.declared.kept.Kept.{Kept}
use Rattle.ep_guarded.specs.Tied.{KeptState, told_in, thread_of, buffer_number, buffer_place}

-- ---- a buffer

-- What is open in a buffer is at rest: what its row knows of it is so, its records are numbered among all writes of its
-- thread, and its seat has taken what the slot has, given nothing, and was found dry as often as the slot refused a write.
pub record KeptRests (events : List EventDef) (writes : ℕ → List Write) (kept : Kept) : Type 0 where
  pub opening : kept.told.opening ≡ opening_of kept.slot
  pub thread : kept.told.thread ≡ kept.slot.thread
  pub budget : kept.slot.chunks ≡ kept.told.grant.now.config.chunks
  pub numbered : SlotAtRest events kept.told.grant.now.config (writes kept.slot.thread) kept.slot
  pub fit : All (λ r. IsTrue (fits (write_of r))) kept.slot.records
  pub seat_is : IsSeatOf kept.told.grant.now.pool kept.seat
  pub share : kept.seat.share ≡ 1
  pub given : kept.seat.given ≡ 0
  pub dry : kept.seat.dry ≡ kept.slot.refused
  pub taken : kept.seat.taken ≡ kept.slot.stolen + kept.slot.pending.chunks
  pub chunks : kept.slot.stolen + kept.slot.pending.chunks ≤ kept.slot.used
  pub few : kept.slot.used ≤ WRITES

-- What contracts see of what is open.
abbrev pub state_of : Kept → KeptState
state_of kept = record { slot = kept.slot; seat = kept.seat }

-- What a buffer and its row agree on.
abbrev pub told_as : Option Told → Agreed
told_as None = agreed.Nothing
told_as (Some told) = agreed.Told told

-- What a buffer and a hand agree on.
abbrev pub held_as : Option Kept → Agreed
held_as None = agreed.Nothing
held_as (Some kept) = agreed.Held (record { numbers = hand_of kept.slot; grant = kept.told.grant })

pub record BufferRests (events : List EventDef) (writes : ℕ → List Write) (kept : Option Kept) (row hand : Tied Agreed) : Type 0 where
  pub row_is : row.value ≡ Some (told_as (option_map (λ k. k.told) kept))
  pub hand_is : hand.value ≡ Some (held_as kept)
  pub beside : hand.place ≡ row.place + 1
  pub rests : ForSome kept (KeptRests events writes)

-- ---- a row

-- How far the row's thread has come.
abbrev pub stand_of : RowState → Stand
stand_of row = record { thread = row.thread; index = row.index }

-- What a row and its thread agree on.
abbrev pub stand_as : RowState → Agreed
stand_as row = if row.left then agreed.Left (stand_of row) else agreed.Stand (stand_of row)

-- The row is at rest over the writes of its thread so far, which are all where the thread has left.
pub record RowOver (events : List EventDef) (configs : ℕ → Config) (writes : List Write) (row : RowState) : Type 0 where
  pub events_are : length events ≡ length row.masks
  pub rest : RowAtRest events configs (take row.index writes) row
  pub left : row.left ≡ true → row.index ≡ length writes

-- What is told to a buffer is what the row has in this slot.
pub record IsToldBy (row : RowState) (config : Config) (slot : ℕ) (value : Option Agreed) : Type 0 where
  pub slot_is : slot_of row slot ≡ option_map (λ t. t.opening) (told_in value)
  pub thread : ForSome (told_in value) (λ t. t.thread ≡ row.thread)
  pub config_is : ForSome (told_in value) (λ t. t.grant.now.config ≡ config)

-- A row in this life.
pub record RowRests (rows : ℕ) (events : List EventDef) (writes : ℕ → List Write) (life : ℕ) (row : RowState) (buffers : List (Tied Agreed)) (writer : Tied Agreed) : Type 0 where
  pub configs : ℕ → Config
  pub over : RowOver events configs (writes row.thread) row
  pub count : length buffers ≡ SESSIONS
  pub places : (s : ℕ) (half : Tied Agreed) → slice_get buffers s ≡ Some half → half.place ≡ buffer_place rows (buffer_number writer.place s)
  pub told : (s : ℕ) (half : Tied Agreed) → slice_get buffers s ≡ Some half → IsToldBy row (configs s) s half.value
  pub stands : writer.value ≡ Some (stand_as row)
  pub thread_is : row.thread ≡ thread_of rows writer.place life
