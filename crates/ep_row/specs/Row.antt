-- What a thread's row is, and what each call makes of it (this project's profile).
use Rattle.std.specs.Prelude.{◌≡◌, ℕ, zero, suc, ◌+◌, Bool, true, false, List, Option, None, Some, map, slice_index, slice_index_or, replicate}
use Rattle.std.specs.Option.{option_map_or}
use Rattle.ep_defs.specs.declared.event.EventDef.{EventDef}
use Rattle.ep_defs.specs.declared.session.Config.{Config}
use Rattle.ep_defs.specs.declared.session.Write.{Write}
use Rattle.ep_defs.specs.Admits.{session_admits}
use Rattle.ep_model.specs.History.{event_at}
use Rattle.ep_slot.specs.Slot.{SlotState}
use Rattle.ep_row.specs.declared.row.Opening.{Opening}

-- A thread's row.
pub record RowState : Type 0 where
  pub thread : ℕ
  -- how many writes the thread has begun
  pub index : ℕ
  pub in_write : Bool
  -- the thread makes no more writes
  pub left : Bool
  -- the stamp of the last write
  pub stamp : ℕ
  -- a bit for each slot that has not seen the last write yet
  pub due : ℕ
  -- for each event a mask with a bit for each slot that gets it
  pub masks : List ℕ
  -- what is open on the row, by slot
  pub slots : List (Option Opening)

-- What is open in a slot.
abbrev pub slot_of : RowState → ℕ → Option Opening
slot_of row slot = slice_index_or row.slots slot None

-- The mask of an event. Events are numbered from 1.
abbrev pub mask_of : RowState → ℕ → ℕ
mask_of row zero = 0
mask_of row (suc place) = slice_index row.masks place

-- What a slot's row knows of it.
abbrev pub opening_of : SlotState → Opening
opening_of slot = record { session = slot.session; from = slot.from; chunks = slot.chunks; shown = slot.used }

-- The row keeps this slot of its thread open.
abbrev pub HasOpen : RowState → ℕ → SlotState → Type 0
HasOpen row slot buffer = (slot_of row slot ≡ Some (opening_of buffer)) × (buffer.thread ≡ row.thread)

-- The row of a thread that has made no write, in a program of this many events.
abbrev pub new_row : ℕ → ℕ → RowState
new_row thread events =
    record {
      thread = thread;
      index = 0;
      in_write = false;
      left = false;
      stamp = 0;
      due = 0;
      masks = replicate events 0;
      slots = replicate 64 None;
    }

-- A write begins: the sessions that get its event are due.
abbrev pub with_begin : RowState → ℕ → Write → RowState
with_begin row stamp write =
    record row { index = row.index + 1; in_write = true; stamp = stamp; due = mask_of row write.event }

-- A slot with one number more.
abbrev pub shown_once : Option Opening → Option Opening
shown_once None = None
shown_once (Some opening) = Some (record opening { shown = opening.shown + 1 })

-- A session gets an event of the list.
abbrev pub gets : List EventDef → Config → ℕ → Bool
gets events config place = option_map_or (λ def. session_admits config def) (event_at events (suc place)) false

-- For each event of the list whether the session gets it.
abbrev pub admitted_of : List EventDef → Config → List Bool
admitted_of events config = map (λ def. session_admits config def) events

-- Such a list says that the session gets the event at this place.
abbrev pub is_admitted : List Bool → ℕ → Bool
is_admitted admitted place = slice_index_or admitted place false
