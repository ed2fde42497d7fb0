-- What holds of a thread's row whenever its lock is free, over the list of the thread's writes so far (this project's
-- profile). The list stands nowhere: a plan says its members, or a past. The configurations, by slot, are those of the
-- sessions that are open.
use Rattle.std.specs.Prelude.{◌≡◌, ℕ, ◌+◌, ◌-◌, ◌<◌, ◌≤◌, Bool, true, false, ◌&&◌, ◌==◌, if◌then◌else◌, List, [], ◌∷◌, ◌++◌, length, Some, is_some, slice_get, slice_index}
use Rattle.std.specs.Int.{bit_at}
use Rattle.std.specs.Option.{option_map_or, ForSome}
use Rattle.ep_defs.specs.declared.limits.TheConstants.{SESSIONS, WRITES}
use Rattle.ep_defs.specs.declared.event.EventDef.{EventDef}
use Rattle.ep_defs.specs.declared.session.Config.{Config}
use Rattle.ep_defs.specs.declared.session.Write.{Write}
use Rattle.ep_model.specs.History.{admits_write, admitted_from}
use Rattle.std.specs.List.{All}
use Rattle.ep_chunk.specs.Record.{Record}
use Rattle.ep_slot.specs.Slot.{SlotState}
use Rattle.ep_row.specs.declared.row.Opening.{Opening}
use Rattle.ep_row.specs.Bits.{one_if}
use Rattle.ep_row.specs.Row.{RowState, slot_of, mask_of, gets, admitted_of}

-- The last write of the list is one that the session gets.
abbrev pub gets_last : List EventDef → Config → List Write → Bool
gets_last events config writes =
    option_map_or (λ write. admits_write events (Some config) write) (slice_get writes (length writes - 1)) false

-- The session was opened within the list, and was shown each write since that it gets, but for the one that is due.
pub record OpenAtRest (events : List EventDef) (config : Config) (writes : List Write) (due : ℕ) (opening : Opening) : Type 0 where
  pub from : opening.from ≤ length writes
  pub shown : opening.shown + due ≡ length (admitted_from events (Some config) opening.from writes)

-- The row agrees with the thread's writes so far.
pub record RowAtRest (events : List EventDef) (configs : ℕ → Config) (writes : List Write) (row : RowState) : Type 0 where
  pub index : row.index ≡ length writes
  pub few : row.index ≤ WRITES
  -- a mask bit for each slot that is on and whose session gets the event
  pub masks : (place slot : ℕ) → place < length events → slot < SESSIONS → bit_at (slice_index row.masks place) slot ≡ one_if (is_some (slot_of row slot) && gets events (configs slot) place)
  -- a slot is due only in a write that its session gets
  pub due : (slot : ℕ) → slot < SESSIONS → bit_at row.due slot ≡ 1 → (row.in_write ≡ true) × (is_some (slot_of row slot) ≡ true) × (gets_last events (configs slot) writes ≡ true)
  pub slots : (slot : ℕ) → slot < SESSIONS → ForSome (slot_of row slot) (λ opening. OpenAtRest events (configs slot) writes (bit_at row.due slot) opening)
  pub left : row.left ≡ true → row.in_write ≡ false

-- What a call makes of a row that is at rest is at rest, over the same writes and configurations.
abbrev pub KeepsRest : RowState → RowState → Type 0
KeepsRest old new =
    (events : List EventDef) (configs : ℕ → Config) (writes : List Write) → length events ≡ length old.masks → RowAtRest events configs writes old → RowAtRest events configs writes new

-- The same over one write more.
abbrev pub KeepsRestWith : Write → RowState → RowState → Type 0
KeepsRestWith write old new =
    (events : List EventDef) (configs : ℕ → Config) (writes : List Write) → length events ≡ length old.masks → RowAtRest events configs writes old → RowAtRest events configs (writes ++ write ∷ []) new

-- The write is of an event that no session gets that is open on the row.
pub record IsUnwanted (write : Write) (row : RowState) : Type 0 where
  pub some : 0 < write.event
  pub event : write.event ≤ length row.masks
  pub none : mask_of row write.event ≡ 0

-- The configurations with that of a session that is opened in a slot.
abbrev pub with_config : (ℕ → Config) → ℕ → Config → ℕ → Config
with_config configs slot config s = if s == slot then config else configs s

-- A row on which a session was opened is at rest where it was before.
abbrev pub KeepsRestOpened : List EventDef → ℕ → Config → RowState → RowState → Type 0
KeepsRestOpened events slot config old new =
    (configs : ℕ → Config) (writes : List Write) → RowAtRest events configs writes old → RowAtRest events (with_config configs slot config) writes new

-- The same by a list of what the session gets, whatever configuration and events it was made of.
abbrev pub KeepsRestAdmitted : List Bool → ℕ → RowState → RowState → Type 0
KeepsRestAdmitted admitted slot old new =
    (events : List EventDef) (config : Config) → admitted ≡ admitted_of events config → KeepsRestOpened events slot config old new

-- The row of a thread that has made no write is at rest.
abbrev pub RestsAnew : RowState → Type 0
RestsAnew row = (events : List EventDef) (configs : ℕ → Config) → length events ≡ length row.masks → RowAtRest events configs [] row

-- A row that another thread takes is at rest where it was before.
abbrev pub KeepsRestAnew : RowState → RowState → Type 0
KeepsRestAnew old new =
    (events : List EventDef) (configs : ℕ → Config) (writes : List Write) → length events ≡ length old.masks → RowAtRest events configs writes old → RowAtRest events configs [] new

-- ---- a slot at rest

-- The write of which a record was made.
abbrev pub write_of : Record → Write
write_of r = record { event = r.event; activity = r.activity; related = r.related; frames = r.frames; payload = r.payload }

-- The record's number is its place, from 1, among the writes from the opening on that the session gets.
abbrev pub IsNumbered : List EventDef → Config → List Write → ℕ → Record → Type 0
IsNumbered events config writes from r =
    slice_get (admitted_from events (Some config) from writes) (r.number - 1) ≡ Some (write_of r)

-- What holds of a slot whenever its lock is free, over all writes of the thread, also those that are to come. That its
-- counts and numbers agree holds of every slot (`IsKept` of ep_slot).
abbrev pub SlotAtRest : List EventDef → Config → List Write → SlotState → Type 0
SlotAtRest events config writes slot = All (IsNumbered events config writes slot.from) slot.records

-- A slot to which a row at rest showed the last of its writes is at rest where it was before, whatever writes come
-- after.
abbrev pub KeepsSlotRest : RowState → ℕ → Write → SlotState → SlotState → Type 0
KeepsSlotRest row place write old new =
    (events : List EventDef) (configs : ℕ → Config) (writes more : List Write) → RowAtRest events configs writes row → slice_get writes (length writes - 1) ≡ Some write → SlotAtRest events (configs place) (writes ++ more) old → SlotAtRest events (configs place) (writes ++ more) new

-- What was stolen of a slot at rest is numbered, and the slot stays at rest.
abbrev pub KeepsStolenRest : SlotState → SlotState → List Record → Type 0
KeepsStolenRest old new stolen =
    (events : List EventDef) (config : Config) (writes : List Write) → SlotAtRest events config writes old → SlotAtRest events config writes new × All (IsNumbered events config writes old.from) stolen
