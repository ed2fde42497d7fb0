-- What holds of the tables of sessions, threads and rows whatever the steps were: each session and its slot on the rows
-- know of each other (this project's profile).
use Rattle.std.specs.Prelude.{◌≡◌, ℕ, ◌≤◌, List, [], ◌∷◌, length, true, false, None, is_some, IsTrue}
use Rattle.std.specs.List.{list_all, AllByRecursion}
use Rattle.std.specs.BTreeMap.{get, btree_map_len}
use Rattle.std.specs.Ordering.{nat_cmp}
use Rattle.ep_defs.specs.Definitions.{AreDistinct, definition_at}
use Rattle.ep_defs.specs.Event.{is_valid_event}
use Rattle.ep_defs.specs.declared.event.EventDef.{EventDef}
use Rattle.ep_defs.specs.declared.limits.TheConstants.{EVENTS, SESSIONS}
use Rattle.ep_rundown.specs.Rundown.{lacks_rundown}
use Rattle.ep_table.specs.Sessions.{is_held, held_count}
use Rattle.ep_stream.specs.Session.{rest_of, opened_count, fault_of, WasOpened, AreRowsOf}
use Rattle.ep_rows.specs.declared.rows.Rows.{Rows}
use Rattle.ep_rows.specs.Rows.{told_of, definitions_of, configured_in, expected_in, out_in}
use Rattle.ep_tables.specs.declared.tables.Present.{Present}
use Rattle.ep_tables.specs.declared.tables.Tables.{Tables}
use Rattle.ep_tables.specs.Tables.{has_slot}

-- The events that threads write are definitions that a stream can hold, no two of them the same, and none that of the
-- rundown.
pub record CanBeTold (events : List EventDef) : Type 0 where
  pub few : length events ≤ EVENTS
  pub valid : IsTrue (list_all is_valid_event events)
  pub distinct : AreDistinct (definition_at events)
  pub lacks : IsTrue (lacks_rundown events)

-- A session that is present has its slot and number, the rows expect its hands, it knows each thread on which it was
-- opened, and has not failed.
pub record IsTied (rows : Rows) (present : Present) : Type 0 where
  pub slot : (rest_of present.session).seat.slot ≡ present.slot
  pub id : (rest_of present.session).seat.id ≡ present.number
  pub rows_are : AreRowsOf expected_in configured_in out_in rows present.session
  pub count : opened_count present.session ≡ btree_map_len present.opened
  pub ever : (thread : ℕ) → WasOpened present.session thread → is_some (get nat_cmp present.opened thread) ≡ true
  pub sound : fault_of present.session ≡ None

-- No two sessions have the same slot.
abbrev pub HaveOwnSlots : List Present → Type 0
HaveOwnSlots [] = Unit {0}
HaveOwnSlots (present ∷ others) = (has_slot present.slot others ≡ false) × HaveOwnSlots others

-- What holds of the tables whatever the steps were.
pub record AreTied (tables : Tables) : Type 0 where
  pub known : definitions_of tables.rows ≡ tables.events.items
  pub can_be_told : CanBeTold tables.events.items
  pub sessions : AllByRecursion (IsTied tables.rows) tables.present.items
  pub own_slots : HaveOwnSlots tables.present.items
  pub held : (slot : ℕ) → is_held tables.table slot ≡ has_slot slot tables.present.items
  pub count : held_count tables.table ≡ length tables.present.items
  pub seats : length tables.table.seats ≡ SESSIONS
  pub off : (row slot : ℕ) → has_slot slot tables.present.items ≡ false → (told_of tables.rows).slot row slot ≡ None
