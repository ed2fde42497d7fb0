-- The rows of a program's threads as they are told (this project's profile).
use Rattle.std.specs.Prelude.{◌≡◌, ◌≤◌, ℕ, zero, suc, false, vec_len, List, [], Option, None, Some, option_map, slice_index_or, IsTrue}
use Rattle.std.specs.List.{All}
use Rattle.ep_defs.specs.declared.event.EventDef.{EventDef}
use Rattle.ep_defs.specs.declared.session.Config.{Config}
use Rattle.ep_defs.specs.Session.{fits}
use Rattle.ep_chunk.specs.Record.{Record}
use Rattle.ep_pool.specs.Counts.{PoolCounts}
use Rattle.ep_slot.specs.Slot.{SlotState, opened}
use Rattle.ep_row.specs.Row.{RowState, slot_of, opening_of}
use Rattle.ep_row.specs.AtRest.{write_of}
use Rattle.ep_stream.specs.Rows.{IsDefined}
use Rattle.ep_stream.specs.Steps.{ToldRows}
use Rattle.ep_rows.specs.declared.opened.Open.{Open}
use Rattle.ep_rows.specs.declared.column.Column.{Column}
use Rattle.ep_rows.specs.Cells.{cell_at, pending_chunks}

-- What stands where there is no row.
abbrev pub no_row : RowState
no_row =
    record {
      thread = 0;
      index = 0;
      in_write = false;
      left = false;
      stamp = 0;
      due = 0;
      masks = [];
      slots = [];
    }

-- The row with a number, from 1.
abbrev pub row_at : List RowState → ℕ → RowState
row_at rows zero = no_row
row_at rows (suc place) = slice_index_or rows place no_row

-- What is open on a row, for a slot's column, if it has one.
abbrev pub cell_in : Option Column → ℕ → Option Open
cell_in None row = None
cell_in (Some column) row = cell_at column.cells.items row

-- What is open on a row in a slot.
abbrev pub open_at : List (Option Column) → ℕ → ℕ → Option Open
open_at columns row slot = cell_in (slice_index_or columns slot None) row

-- What stands where there is no pool.
abbrev pub no_chunks : PoolCounts
no_chunks = record { total = 0; free = 0 }

-- The pool of the session at a slot, empty where there is none.
abbrev pub pool_in : Option Column → PoolCounts
pool_in None = no_chunks
pool_in (Some column) = column.pool

-- The chunks of the session in a slot.
abbrev pub pool_at : List (Option Column) → ℕ → PoolCounts
pool_at columns slot = pool_in (slice_index_or columns slot None)

-- How many chunks the slots of a column have pending.
abbrev pub pending_in : Option Column → ℕ
pending_in None = 0
pending_in (Some column) = pending_chunks column.cells.items

-- What a session has of a row's thread.
abbrev pub slot_in : Option Open → Option SlotState
slot_in cell = option_map (λ (o : Open). o.slot) cell

-- The configuration with which a session is open on a row.
abbrev pub config_in : Option Open → Option Config
config_in cell = option_map (λ (o : Open). o.config) cell

-- Rows and columns as they are told.
abbrev pub told : List RowState → List (Option Column) → ToldRows
told rows columns =
    record {
      row = λ r. row_at rows r;
      slot = λ r s. slot_in (open_at columns r s);
      pool = λ s. pool_at columns s;
    }

-- ---- what holds of all rows

-- A record is of a write that a thread can make.
abbrev pub IsWritten : List EventDef → Record → Type 0
IsWritten events r = IsDefined events r × IsTrue (fits (write_of r))

-- A row knows what is open on it in a slot.
pub record IsKnown (row : RowState) (slot : ℕ) (cell : Option Open) : Type 0 where
  pub on : slot_of row slot ≡ option_map (λ (o : Open). opening_of o.slot) cell
  pub thread : (o : Open) → cell ≡ Some o → o.slot.thread ≡ row.thread

-- What a slot has pending was written.
abbrev pub AreWritten : List EventDef → Option Open → Type 0
AreWritten events cell = (o : Open) → cell ≡ Some o → All (IsWritten events) o.slot.records

-- ---- one session on one row

-- There is a place for the row.
abbrev pub HasPlace : ℕ → Option Column → Type 0
HasPlace row None = ⊥
HasPlace row (Some column) = row ≤ vec_len column.cells

-- What is open once a session was opened on the row.
abbrev pub opened_with : ℕ → RowState → Config → Open
opened_with session row config =
    record { slot = opened session row.thread row.index config.chunks; config = config }
