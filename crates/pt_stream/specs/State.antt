-- What contracts see of a session's stream over a run (this project's profile).
use Rattle.std.specs.Prelude.{◌≡◌, ℕ, ◌+◌, ◌-◌, ◌<◌, ◌≤◌, Bool, true, false, ◌&&◌, ◌||◌, ◌==◌, nat_lt, List, [], length, Option, None, IsTrue, replicate, slice_index_or, slice_set}
use Rattle.std.specs.List.{list_all}
use Rattle.std.specs.Option.{ForSome, option_map_or}
use Rattle.ep_defs.specs.declared.limits.TheConstants.{EVENTS}
use Rattle.ep_defs.specs.declared.event.EventDef.{EventDef}
use Rattle.ep_defs.specs.declared.session.Config.{Config}
use Rattle.ep_defs.specs.declared.session.Marks.{Marks}
use Rattle.ep_defs.specs.declared.session.Write.{Write}
use Rattle.ep_defs.specs.Definitions.{AreDistinct, definition_at}
use Rattle.ep_defs.specs.Event.{is_valid_event}
use Rattle.ep_rundown.specs.Rundown.{lacks_rundown}
use Rattle.ep_guarded.specs.Tied.{thread_of}
use Rattle.ep_pool.specs.Shared.{SharedPool, SeatState}
use Rattle.ep_stream.specs.Named.{with_marks}
use Rattle.pt_io.specs.Sides.{ReadSide}
use Rattle.pt_stream.specs.declared.place.Place.{Place}

-- A session's stream: the session's id, its slot on each row, the connection that asked for it and its configuration; what
-- its sink has given, where it is a source too; how many writes each thread has begun, while the stream has the halves of all threads; what it has of each row, the first
-- being row 1; what it had of each thread on which it was closed, ascending by thread; and whether it was first opened on
-- each row, where it was, in the row's first life and before the thread's first write.
pub record StreamState : Type 0 where
  pub id : ℕ
  pub slot : ℕ
  pub conn : ℕ
  pub config : Config
  pub gave : ReadSide
  pub stands : Option ℕ
  pub places : List Place
  pub marks : List Marks
  pub early : Bool

-- ---- places

-- A row on which the session never was open.
abbrev pub no_place : Place
no_place = record { next = 0; is_open = false }

-- What it has of a row, the first being row 1.
abbrev pub place_at : List Place → ℕ → Place
place_at places row = slice_index_or places (row - 1) no_place

-- The places where that of a row is another.
abbrev pub with_place : ℕ → Place → List Place → List Place
with_place row place places = slice_set places (row - 1) place

-- It is open on none of so many rows.
abbrev pub IsShut : ℕ → StreamState → Type 0
IsShut rows stream = (row : ℕ) → 0 < row → row ≤ rows → (place_at stream.places row).is_open ≡ false

-- It was opened on each row.
abbrev pub is_complete : StreamState → Bool
is_complete stream = list_all (λ place. nat_lt 0 place.next) stream.places

-- ---- the calls

-- The first seat of a pool has all of so many shares.
abbrev pub first_seat : SharedPool → ℕ → SeatState
first_seat pool seats = record { pool = pool.pool; total = pool.total; seats = seats; share = seats; taken = 0; given = 0; dry = 0 }

-- A session that was just started.
abbrev pub new_stream : ℕ → ℕ → ℕ → ℕ → Config → ReadSide → StreamState
new_stream rows id slot conn config gave =
    record {
      id = id;
      slot = slot;
      conn = conn;
      config = config;
      gave = gave;
      stands = None;
      places = replicate rows no_place;
      marks = [];
      early = true;
    }

-- An opening in this life leaves the session an early one: it was opened on the row before, or no thread has made a write.
abbrev pub stays_early : Option ℕ → Place → ℕ → Bool
stays_early stands place life = nat_lt 0 place.next || ((life == 0) && option_map_or (λ index. index == 0) stands false)

-- It was opened on a row in this life.
abbrev pub opened_on : ℕ → ℕ → StreamState → StreamState
opened_on row life stream =
    record stream {
      places = with_place row (record { next = life + 1; is_open = true }) stream.places;
      early = stream.early && stays_early stream.stands (place_at stream.places row) life;
    }

-- It was closed on a row, and has these marks.
abbrev pub closed_on : ℕ → List Marks → StreamState → StreamState
closed_on row marks stream =
    record stream {
      places = with_place row (record (place_at stream.places row) { is_open = false }) stream.places;
      marks = marks;
    }

-- ---- marks

-- The marks are those of a thread that had made so many writes when the session was closed there.
abbrev pub EndsAt : ℕ → Marks → Type 0
EndsAt writes mark = mark.to ≡ writes

-- The thread had made all its writes.
abbrev pub IsDone : (ℕ → List Write) → Marks → Type 0
IsDone writes mark = mark.to ≡ length (writes mark.thread)

-- These are the marks with those of one thread more: the row's thread in the last life in which the session was opened there.
-- It had made so many writes, where that is known or was asked.
pub record IsMarked (rows row : ℕ) (place : Place) (stands ends : Option ℕ) (old new : List Marks) : Type 0 where
  pub mark : Marks
  pub more : new ≡ with_marks mark old
  pub thread_is : mark.thread ≡ thread_of rows (row - 1) (place.next - 1)
  pub stands_at : ForSome stands (λ index. mark.to ≡ index)
  pub ends_at : stands ≡ None → ForSome ends (λ index. mark.to ≡ index)

-- ---- events

-- The definitions of a program's events are valid ones, each another, none of them that of a rundown, and no more than there
-- can be.
pub record AreEvents (events : List EventDef) : Type 0 where
  pub few : length events ≤ EVENTS
  pub valid : IsTrue (list_all is_valid_event events)
  pub distinct : AreDistinct (definition_at events)
  pub lacks : IsTrue (lacks_rundown events)
