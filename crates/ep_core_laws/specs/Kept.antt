-- What is kept of a session is what the steps so far say (this project's profile).
use Rattle.std.specs.Prelude.{◌≡◌, ℕ, ◌+◌, true, List, length, map, Some}
use Rattle.ep_defs.specs.declared.event.EventDef.{EventDef}
use Rattle.ep_defs.specs.declared.session.Write.{Write}
use Rattle.ep_defs.specs.Entry.{Event}
use Rattle.ep_pool.specs.Counts.{PoolCounts}
use Rattle.ep_slot.specs.Slot.{SlotState}
use Rattle.ep_model.specs.History.{Past, last_begun, is_open, opened_at, shows}
use Rattle.ep_model.specs.Chunks.{chunks_of, refused, written}
use Rattle.ep_model.specs.Fold.{budget_of}
use Rattle.ep_model.specs.Entries.{has_stacks, pending, told_number}
use Rattle.ep_stream.specs.Telling.{entries_of}

-- The thread began this write last, at this stamp.
abbrev pub IsLast : ℕ → Past → ℕ → Write → Type 0
IsLast thread past stamp write = last_begun thread past ≡ Some (record { stamp = stamp; write = write })

-- A slot keeps of a session that is open on a thread what the steps so far say of the two.
pub record SlotFollows (events : List EventDef) (past : Past) (session : ℕ) (slot : SlotState) : Type 0 where
  pub session_is : slot.session ≡ session
  pub on : is_open session slot.thread past ≡ true
  pub from_is : opened_at session slot.thread past ≡ Some slot.from
  pub chunks_are : slot.chunks ≡ chunks_of session past
  -- numbers: how many were used, how many of them for writes that were refused or kept, and the last one that was told
  pub used_are : slot.used ≡ shows session slot.thread past
  pub refused_are : slot.refused ≡ length (refused session slot.thread past)
  pub kept_are : slot.taken + length slot.records ≡ written session slot.thread past
  pub last_is : slot.last ≡ told_number session slot.thread past
  -- what is pending: the chunks that the budget counts, and the events that the stream still has to tell
  pub pending_is : slot.pending ≡ (budget_of session past).pending slot.thread
  pub records_are : entries_of events (has_stacks session past) slot.records ≡ map Event (pending events session slot.thread past)

-- A pool has the chunks of the session's budget, and those of them are free that are not held.
pub record PoolFollows (past : Past) (session : ℕ) (pool : PoolCounts) : Type 0 where
  pub total_is : pool.total ≡ chunks_of session past
  pub free_are : pool.free + (budget_of session past).held ≡ pool.total
