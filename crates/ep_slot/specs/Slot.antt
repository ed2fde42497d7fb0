-- What a session's slot on a thread is, and what each call makes of it (this project's profile).
use Rattle.std.specs.Prelude.{◌≡◌, ℕ, ◌+◌, ◌<◌, ◌≤◌, Bool, true, false, if◌then◌else◌, List, [], ◌∷◌, ◌++◌, length, All}
use Rattle.ep_defs.specs.declared.session.Write.{Write}
use Rattle.ep_defs.specs.declared.session.Marks.{Marks}
use Rattle.ep_chunk.specs.Record.{Record}
use Rattle.ep_model.specs.Budget.{Pending, no_pending, pending_with, record_size}
use Rattle.ep_slot.specs.declared.shown.Counts.{Counts}
use Rattle.ep_slot.specs.declared.shown.Shown.{Shown}
use Rattle.ep_slot.specs.declared.shown.Shown.TheVariants.{Written, Refused}

-- What a session has of one thread.
pub record SlotState : Type 0 where
  pub session : ℕ
  pub thread : ℕ
  -- how many writes the thread had made when the session was opened on it
  pub from : ℕ
  -- the session's budget, in chunks
  pub chunks : ℕ
  -- how many writes were shown; their numbers are 1 up to this
  pub used : ℕ
  -- how many records were stolen
  pub taken : ℕ
  pub refused : ℕ
  -- `used` at the last steal, or 0
  pub last : ℕ
  -- how many chunks were stolen
  pub stolen : ℕ
  -- the records that are pending, the oldest first
  pub records : List Record
  -- what the budget counts of them
  pub pending : Pending

-- The slot of a session that was just opened.
abbrev pub opened : ℕ → ℕ → ℕ → ℕ → SlotState
opened session thread from chunks =
    record {
      session = session;
      thread = thread;
      from = from;
      chunks = chunks;
      used = 0;
      taken = 0;
      refused = 0;
      last = 0;
      stolen = 0;
      records = [];
      pending = no_pending;
    }

-- The record of a write that is shown now: it has the next number.
abbrev pub recorded : SlotState → ℕ → Write → Record
recorded slot stamp write =
    record {
      event = write.event;
      number = slot.used + 1;
      thread = slot.thread;
      stamp = stamp;
      activity = write.activity;
      related = write.related;
      frames = write.frames;
      payload = write.payload;
    }

-- A write that is kept.
abbrev pub with_record : SlotState → ℕ → Write → SlotState
with_record slot stamp write =
    record slot {
      used = slot.used + 1;
      records = slot.records ++ recorded slot stamp write ∷ [];
      pending = pending_with slot.pending (record_size write);
    }

-- A write that is refused uses a number and leaves no record.
abbrev pub with_refusal : SlotState → SlotState
with_refusal slot = record slot { used = slot.used + 1; refused = slot.refused + 1 }

-- A slot to which a write was shown, which it refuses or keeps.
abbrev pub shown_slot : Bool → SlotState → ℕ → Write → SlotState
shown_slot refused slot stamp write = if refused then with_refusal slot else with_record slot stamp write

-- A steal takes all that is pending.
abbrev pub with_steal : SlotState → SlotState
with_steal slot =
    record slot {
      taken = slot.taken + length slot.records;
      last = slot.used;
      stolen = slot.stolen + slot.pending.chunks;
      records = [];
      pending = no_pending;
    }

-- What a session had of a thread that has made this many writes when the session is closed on it.
abbrev pub marks_of : SlotState → ℕ → Marks
marks_of slot to =
    record {
      thread = slot.thread;
      from = slot.from;
      to = to;
      taken = slot.taken + length slot.records;
      refused = slot.refused;
    }

-- What became of the numbers that were used.
abbrev pub counts_of : SlotState → Counts
counts_of slot =
    record { used = slot.used; taken = slot.taken; refused = slot.refused; pending = length slot.records }

-- ---- what is shown

-- The number that a write used.
abbrev pub number_of : Shown → ℕ
number_of (Written number) = number
number_of (Refused number) = number

-- The write was refused.
abbrev pub is_refused : Shown → Bool
is_refused (Written number) = false
is_refused (Refused number) = true

-- ---- what holds of every slot

-- The numbers of records rise above the first number, and none is above the second.
abbrev pub AreRising : ℕ → ℕ → List Record → Type 0
AreRising below most [] = below ≤ most
AreRising below most (r ∷ records) = (below < r.number) × AreRising r.number most records

-- Each number that was used is taken, pending or refused, and what is pending came after the last steal.
pub record IsKept (slot : SlotState) : Type 0 where
  pub counted : slot.taken + length slot.records + slot.refused ≡ slot.used
  pub last : slot.last ≤ slot.used
  pub rising : AreRising slot.last slot.used slot.records
  pub of_thread : All (λ r. r.thread ≡ slot.thread) slot.records
