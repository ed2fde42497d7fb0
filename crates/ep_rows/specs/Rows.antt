-- What a row set tells of its rows, and keeps for the sessions that are open on them (this project's profile).
use Rattle.std.specs.Prelude.{◌≡◌, ℕ, ◌-◌, ◌==◌, if◌then◌else◌, List, Option, None, option_map, slice_index_or}
use Rattle.ep_defs.specs.declared.event.EventDef.{EventDef}
use Rattle.ep_defs.specs.declared.session.Config.{Config}
use Rattle.ep_defs.specs.declared.limits.TheConstants.{THREADS}
use Rattle.ep_slot.specs.Hand.{HandState, hand_of}
use Rattle.ep_row.specs.Row.{new_row}
use Rattle.ep_row.specs.AtRest.{RestsAnew}
use Rattle.ep_stream.specs.Rows.{IsRow, IsSame}
use Rattle.ep_stream.specs.Steps.{ToldRows}
use Rattle.ep_rows.specs.declared.rows.Rows.{Rows}
use Rattle.ep_rows.specs.Told.{told, open_at, pool_at, slot_in, config_in, pending_in, no_chunks}

-- The rows as they are told.
abbrev pub told_of : Rows → ToldRows
told_of set = told set.rows.items set.columns.items

-- The definitions of the events that threads write.
abbrev pub definitions_of : Rows → List EventDef
definitions_of set = set.events.items

-- The configuration that a session was opened with.
abbrev pub configured_in : Rows → ℕ → ℕ → Option Config
configured_in set row slot = config_in (open_at set.columns.items row slot)

-- The numbers of the hand of what is open.
abbrev pub expected_in : Rows → ℕ → ℕ → Option HandState
expected_in set row slot = option_map hand_of (slot_in (open_at set.columns.items row slot))

-- How many chunks were taken with hands and not given back: those that are neither free nor pending.
abbrev pub out_in : Rows → ℕ → ℕ
out_in set slot = (pool_at set.columns.items slot).total - (pool_at set.columns.items slot).free - pending_in (slice_index_or set.columns.items slot None)

-- The sessions that are open keep their configurations, and the chunks that are out stay out.
pub record KeepsOpen (old new : Rows) : Type 0 where
  pub configs : IsSame (configured_in old) (configured_in new)
  pub out : (s : ℕ) → out_in new s ≡ out_in old s

-- No session has the slot any more, or yet: no chunk of it is out, and the other slots keep what they have.
pub record ClearsSlot (slot : ℕ) (old new : Rows) : Type 0 where
  pub configs : IsSame (configured_in old) (configured_in new)
  pub out : (s : ℕ) → out_in new s ≡ (if s == slot then 0 else out_in old s)

-- Each row has the thread of its number, which has made no write, and no session is open.
pub record AreFresh (events : ℕ) (told : ToldRows) : Type 0 where
  pub rows : (r : ℕ) → IsRow THREADS r → told.row r ≡ new_row r events
  pub rest : (r : ℕ) → IsRow THREADS r → RestsAnew (told.row r)
  pub slots : (r s : ℕ) → told.slot r s ≡ None
  pub pools : (s : ℕ) → told.pool s ≡ no_chunks
