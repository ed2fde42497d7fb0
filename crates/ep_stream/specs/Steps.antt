-- What each call makes of rows that are told: the change of that row, slot or pool, and of nothing else (this project's profile).
use Rattle.std.specs.Prelude.{◌≡◌, ℕ, ◌+◌, false, ◌==◌, if◌then◌else◌, List, Option, Some, None, min, slice_set}
use Rattle.ep_defs.specs.declared.event.EventDef.{EventDef}
use Rattle.ep_defs.specs.declared.session.Config.{Config}
use Rattle.ep_defs.specs.declared.session.Marks.{Marks}
use Rattle.ep_chunk.specs.Record.{Record}
use Rattle.ep_pool.specs.Counts.{PoolCounts}
use Rattle.ep_slot.specs.Slot.{SlotState, IsKept, opened, with_steal, marks_of}
use Rattle.ep_row.specs.Bits.{SetsBits}
use Rattle.ep_row.specs.Row.{RowState, opening_of, gets}
use Rattle.ep_row.specs.AtRest.{KeepsRest, KeepsRestOpened}
use Rattle.ep_stream.specs.Rows.{IsSetAt, IsSame}

-- The rows of a set that tells them.
pub record ToldRows : Type 0 where
  -- the row with a number, from 1
  pub row : ℕ → RowState
  -- by row and slot, what a session that is open there has of the row's thread
  pub slot : ℕ → ℕ → Option SlotState
  -- by slot, the chunks of the session
  pub pool : ℕ → PoolCounts

-- A step of rows that are told; rows that are not told stay untold.
abbrev pub TellsStep : (ToldRows → ToldRows → Type 0) → Option ToldRows → Option ToldRows → Type 0
TellsStep step None None = Unit {0}
TellsStep step None (Some new) = ⊥
TellsStep step (Some old) None = ⊥
TellsStep step (Some old) (Some new) = step old new

-- A session can be opened on the row: its thread is not in a write and has not left.
pub record CanOpen (row : ℕ) (told : ToldRows) : Type 0 where
  pub quiet : (told.row row).in_write ≡ false
  pub stays : (told.row row).left ≡ false

-- A session can be closed on the row: its thread is not in a write.
abbrev pub CanClose : ℕ → ToldRows → Type 0
CanClose row told = (told.row row).in_write ≡ false

-- Nothing changes.
pub record Stays (old new : ToldRows) : Type 0 where
  pub rows : (r : ℕ) → new.row r ≡ old.row r
  pub slots : IsSame old.slot new.slot
  pub pools : (s : ℕ) → new.pool s ≡ old.pool s

-- One row changes in this way, and no other.
pub record ChangesRow (row : ℕ) (Changes : RowState → RowState → Type 0) (old new : ToldRows) : Type 0 where
  pub here : Changes (old.row row) (new.row row)
  pub others : (r : ℕ) → (r ≡ row → ⊥) → new.row r ≡ old.row r

-- A session is opened in a slot of the row.
pub record OpensRow (events : List EventDef) (slot session : ℕ) (config : Config) (old new : RowState) : Type 0 where
  pub slots : new.slots ≡ slice_set old.slots slot (Some (opening_of (opened session old.thread old.index config.chunks)))
  pub masks : SetsBits slot (gets events config) old.masks new.masks
  pub others : new ≡ record old { masks = new.masks; slots = new.slots }
  pub rest : KeepsRestOpened events slot config old new

pub record Opens (events : List EventDef) (row slot session : ℕ) (config : Config) (old new : ToldRows) : Type 0 where
  pub rows : ChangesRow row (OpensRow events slot session config) old new
  pub slots : IsSetAt row slot (Some (opened session (old.row row).thread (old.row row).index config.chunks)) old.slot new.slot
  pub pools : (s : ℕ) → new.pool s ≡ old.pool s

-- A batch has all that was pending in a slot.
pub record IsAllOf (buffer : SlotState) (records : List Record) (last chunks : ℕ) : Type 0 where
  pub kept : IsKept buffer
  pub records_are : records ≡ buffer.records
  pub last_is : last ≡ buffer.used
  pub chunks_are : chunks ≡ buffer.pending.chunks

-- All that is pending in a slot of the row is taken.
pub record Steals (row slot : ℕ) (records : List Record) (last chunks : ℕ) (old new : ToldRows) : Type 0 where
  pub buffer : SlotState
  pub was : old.slot row slot ≡ Some buffer
  pub all : IsAllOf buffer records last chunks
  pub slots : IsSetAt row slot (Some (with_steal buffer)) old.slot new.slot
  pub rows : (r : ℕ) → new.row r ≡ old.row r
  pub pools : (s : ℕ) → new.pool s ≡ old.pool s

-- The session in a slot of the row is closed.
pub record ClosesRow (slot : ℕ) (old new : RowState) : Type 0 where
  pub slots : new.slots ≡ slice_set old.slots slot None
  pub masks : SetsBits slot (λ _. false) old.masks new.masks
  pub others : new ≡ record old { masks = new.masks; slots = new.slots }
  pub rest : KeepsRest old new

pub record Closes (row slot : ℕ) (records : List Record) (last chunks : ℕ) (marks : Marks) (old new : ToldRows) : Type 0 where
  pub buffer : SlotState
  pub was : old.slot row slot ≡ Some buffer
  pub all : IsAllOf buffer records last chunks
  pub marks_are : marks ≡ marks_of buffer (old.row row).index
  pub rows : ChangesRow row (ClosesRow slot) old new
  pub slots : IsSetAt row slot None old.slot new.slot
  pub pools : (s : ℕ) → new.pool s ≡ old.pool s

-- A pool with so many chunks given back.
abbrev pub given_back : PoolCounts → ℕ → PoolCounts
given_back pool chunks = record pool { free = min pool.total (pool.free + chunks) }

-- So many chunks of the session in a slot are given back.
pub record GivesBack (slot chunks : ℕ) (old new : ToldRows) : Type 0 where
  pub pools : (s : ℕ) → new.pool s ≡ (if s == slot then given_back (old.pool s) chunks else old.pool s)
  pub rows : (r : ℕ) → new.row r ≡ old.row r
  pub slots : IsSame old.slot new.slot
