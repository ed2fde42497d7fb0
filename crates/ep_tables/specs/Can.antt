-- What a step finds in the tables where it can be made (this project's profile).
use Rattle.std.specs.Prelude.{◌≡◌, ℕ, ◌<◌, ◌≤◌, ◌==◌, true, false, length, Some, None, slice_get, position, IsTrue, IsSome}
use Rattle.std.specs.Int.{bit_at}
use Rattle.std.specs.BTreeMap.{get, btree_map_len}
use Rattle.std.specs.Ordering.{nat_cmp}
use Rattle.ep_defs.specs.declared.limits.TheConstants.{SCHEDULE_WRITES, SESSIONS, SESSION_THREADS, THREADS}
use Rattle.ep_defs.specs.Session.{is_valid_config, fits}
use Rattle.ep_model.specs.declared.step.Step.{Step}
use Rattle.ep_model.specs.declared.step.Step.TheVariants as step
use Rattle.ep_row.specs.Row.{RowState, slot_of}
use Rattle.ep_stream.specs.Rows.{IsRow}
use Rattle.ep_stream.specs.Session.{rest_of}
use Rattle.ep_rows.specs.Rows.{told_of, definitions_of}
use Rattle.ep_tables.specs.declared.tables.Present.{Present}
use Rattle.ep_tables.specs.declared.tables.Tables.{Tables}
use Rattle.ep_tables.specs.Tables.{row_of}

-- A thread has a row of its own, of which this holds.
pub record HasRow (tables : Tables) (thread : ℕ) (Holds : RowState → Type 0) : Type 0 where
  pub row : ℕ
  pub own : row_of tables thread ≡ Some row
  pub is_row : IsRow THREADS row
  pub holds : Holds ((told_of tables.rows).row row)

-- A session has a place among those that are present, of which this holds.
pub record HasPlace (tables : Tables) (session : ℕ) (Holds : Present → Type 0) : Type 0 where
  pub place : ℕ
  pub first : position (λ (p : Present). p.number == session) tables.present.items ≡ Some place
  pub present : Present
  pub there : slice_get tables.present.items place ≡ Some present
  pub holds : Holds present

-- The row's thread can begin a write, leave, or have a session opened on it.
pub record IsQuiet (row : RowState) : Type 0 where
  pub between : row.in_write ≡ false
  pub stays : row.left ≡ false

-- The session can be opened on the row of a thread.
pub record CanOpenOn (thread : ℕ) (present : Present) (row : RowState) : Type 0 where
  pub quiet : IsQuiet row
  pub off : slot_of row present.slot ≡ None
  pub never : get nat_cmp present.opened thread ≡ None
  pub few : btree_map_len present.opened < SESSION_THREADS

-- The row's write is due for the session.
pub record CanShowTo (present : Present) (row : RowState) : Type 0 where
  pub writing : row.in_write ≡ true
  pub due : bit_at row.due present.slot ≡ 1

-- The write of the row can end.
pub record CanEnd (row : RowState) : Type 0 where
  pub writing : row.in_write ≡ true
  pub seen : row.due ≡ 0

-- The session is open on the row.
abbrev pub IsOn : Present → RowState → Type 0
IsOn present row = IsSome (slot_of row present.slot)

-- The session has nothing in hand.
abbrev pub HasEmptyHand : Present → Type 0
HasEmptyHand present = (rest_of present.session).in_hand ≡ 0

-- The session is open on no row.
abbrev pub IsNowhere : Tables → Present → Type 0
IsNowhere tables present = (r : ℕ) → IsRow THREADS r → slot_of ((told_of tables.rows).row r) present.slot ≡ None

-- What a step that can be made finds in the tables.
abbrev pub CanMake : Step → Tables → Type 0
CanMake (step.Accept s config) tables =
    (tables.last_session < s) × IsTrue (is_valid_config config) × (length tables.present.items < SESSIONS)
CanMake (step.Enter t) tables = Unit {0}
CanMake (step.Leave t) tables = HasRow tables t IsQuiet
CanMake (step.Open s t) tables = HasPlace tables s (λ present. HasRow tables t (CanOpenOn t present))
CanMake (step.Begin t stamp write) tables =
    HasRow tables t IsQuiet × (0 < write.event) × (write.event ≤ length (definitions_of tables.rows)) × IsTrue (fits write)
    × (tables.begins < SCHEDULE_WRITES)
CanMake (step.Show t s) tables = HasPlace tables s (λ present. HasRow tables t (CanShowTo present))
CanMake (step.End t) tables = HasRow tables t CanEnd
CanMake (step.Steal s t) tables = HasPlace tables s (λ present. HasRow tables t (IsOn present) × HasEmptyHand present)
CanMake (step.Close s t) tables =
    HasPlace tables s (λ present. HasRow tables t (λ row. IsOn present row × (row.in_write ≡ false)) × HasEmptyHand present)
CanMake (step.Give s) tables = HasPlace tables s (λ present. Unit {0})
CanMake (step.Point s stamp) tables = HasPlace tables s (λ present. Unit {0})
CanMake (step.Finish s stamp) tables = HasPlace tables s (λ present. IsNowhere tables present × HasEmptyHand present)
