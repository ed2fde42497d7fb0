-- What the tables of sessions, threads and rows stand for (this project's profile).
use Rattle.std.specs.Prelude.{◌≡◌, ◌⊎◌, ℕ, ◌==◌, Bool, true, false, List, length, map, Option, Some, None, is_some, position, if◌then◌else◌, nat_lt, nat_le}
use Rattle.std.specs.Int.{bit_at}
use Rattle.std.specs.List.{list_any, AllByRecursion}
use Rattle.std.specs.BTreeMap.{get, btree_map_len}
use Rattle.std.specs.Ordering.{nat_cmp}
use Rattle.ep_defs.specs.declared.limits.TheConstants.{THREADS}
use Rattle.ep_defs.specs.declared.event.EventDef.{EventDef}
use Rattle.ep_table.specs.Sessions.{is_held, held_count}
use Rattle.ep_model.specs.declared.step.Kind.{Kind}
use Rattle.ep_model.specs.Fold.{budget_of}
use Rattle.ep_model.specs.History.{Past, accepted, entered, present, opened, was_there, has_left, in_write, is_open, is_due, writes_of}
use Rattle.ep_model.specs.Lawful.{Objection, against, IsLawful, begins, was_opened}
use Rattle.ep_row.specs.Row.{RowState, slot_of}
use Rattle.ep_stream.specs.Rows.{IsRow}
use Rattle.ep_stream.specs.Session.{rest_of}
use Rattle.ep_stream.specs.Steps.{ToldRows}
use Rattle.ep_rows.specs.Rows.{told_of, definitions_of}
use Rattle.ep_tables.specs.declared.tables.Present.{Present}
use Rattle.ep_tables.specs.declared.tables.Tables.{Tables}

-- ---- threads and rows

-- A row that a thread was given is its own while it serves that thread.
abbrev pub own_row : ToldRows → ℕ → Option ℕ → Option ℕ
own_row told thread None = None
own_row told thread (Some row) = if (told.row row).thread == thread then Some row else None

-- The row of a thread, until another thread takes it.
abbrev pub row_of : Tables → ℕ → Option ℕ
row_of tables thread = own_row (told_of tables.rows) thread (get nat_cmp tables.threads thread)

-- A row says of its thread what the past does.
pub record RowFollows (past : Past) (row : RowState) : Type 0 where
  pub came : was_there row.thread past ≡ true
  pub count : row.index ≡ length (writes_of row.thread past)
  pub writing : row.in_write ≡ in_write row.thread past
  pub gone : row.left ≡ has_left row.thread past

-- The thread left, and no session is open on it.
pub record IsGone (thread : ℕ) (past : Past) : Type 0 where
  pub gone : has_left thread past ≡ true
  pub closed : (session : ℕ) → is_open session thread past ≡ false

-- A thread that came was given a row, which is its own or was taken by another.
abbrev pub PlaceFollows : Past → ToldRows → ℕ → Option ℕ → Type 0
PlaceFollows past told thread None = was_there thread past ≡ false
PlaceFollows past told thread (Some row) =
    (was_there thread past ≡ true) × (((told.row row).thread ≡ thread) ⊎ IsGone thread past)

-- ---- sessions that are present

-- The number of a session that is present.
abbrev pub number_of : Present → ℕ
number_of present = present.number

-- The place of a session among those that are present, if it is.
abbrev pub place_of : Tables → ℕ → Option ℕ
place_of tables session = position (λ (p : Present). p.number == session) tables.present.items

-- A session holds this slot.
abbrev pub has_slot : ℕ → List Present → Bool
has_slot slot sessions = list_any (λ (p : Present). p.slot == slot) sessions

-- A row says of a session, by the session's slot, what the past does.
pub record OnFollows (events : List EventDef) (past : Past) (session slot : ℕ) (row : RowState) : Type 0 where
  pub on : is_some (slot_of row slot) ≡ is_open session row.thread past
  pub owed : (bit_at row.due slot == 1) ≡ is_due events session row.thread past

-- What is kept of a session is what the past says of it.
pub record PresentFollows (events : List EventDef) (past : Past) (told : ToldRows) (present : Present) : Type 0 where
  pub seat : (rest_of present.session).seat.slot ≡ present.slot
  pub rows : (r : ℕ) → IsRow THREADS r → OnFollows events past present.number present.slot (told.row r)
  pub ever : (thread : ℕ) → is_some (get nat_cmp present.opened thread) ≡ was_opened present.number thread past
  pub count : btree_map_len present.opened ≡ length (opened present.number past)
  pub in_hand : (rest_of present.session).in_hand ≡ (budget_of present.number past).in_hand

-- ---- all of them

-- The tables stand for these steps.
pub record TablesFollow (events : List EventDef) (past : Past) (tables : Tables) : Type 0 where
  pub lawful : IsLawful events past
  pub events_are : tables.events.items ≡ events
  pub known : definitions_of tables.rows ≡ events
  pub last_session : (session : ℕ) → nat_lt 0 session ≡ true → list_any (λ s. nat_le session s) (accepted past) ≡ nat_le session tables.last_session
  pub last_thread : (thread : ℕ) → nat_lt THREADS thread ≡ true → list_any (λ t. nat_le thread t) (entered past) ≡ nat_le thread tables.last_thread
  pub begins_are : begins past ≡ tables.begins
  -- rows
  pub rows : (r : ℕ) → IsRow THREADS r → RowFollows past ((told_of tables.rows).row r)
  pub places : (thread : ℕ) → PlaceFollows past (told_of tables.rows) thread (get nat_cmp tables.threads thread)
  pub place_of : (r : ℕ) → IsRow THREADS r → get nat_cmp tables.threads ((told_of tables.rows).row r).thread ≡ Some r
  -- sessions
  pub present_are : present past ≡ map number_of tables.present.items
  pub sessions : AllByRecursion (PresentFollows events past (told_of tables.rows)) tables.present.items
  -- slots
  pub held : (slot : ℕ) → is_held tables.table slot ≡ has_slot slot tables.present.items
  pub held_are : held_count tables.table ≡ length tables.present.items
  pub on_known : (r slot : ℕ) → IsRow THREADS r → is_some (slot_of ((told_of tables.rows).row r) slot) ≡ true → has_slot slot tables.present.items ≡ true
  pub due_known : (r slot : ℕ) → IsRow THREADS r → bit_at ((told_of tables.rows).row r).due slot ≡ 1 → has_slot slot tables.present.items ≡ true

-- ---- what stands against a step

-- What is judged of a step, as the objection that it is.
abbrev pub objection_of : Bool × Kind → Objection
objection_of judged = against judged.0 judged.1
