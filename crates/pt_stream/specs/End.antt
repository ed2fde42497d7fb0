-- What a session over a run's rows comes to (this project's theorem).
use Rattle.std.specs.Prelude.{◌≡◌, ◌≢◌, ℕ, ◌+◌, ◌-◌, ◌<◌, ◌≤◌, true, false, List, length, map}
use Rattle.std.specs.List.{AllByRecursion, sum_by}
use Rattle.ep_defs.specs.declared.session.Marks.{Marks}
use Rattle.pt_io.specs.declared.sink.Sink.{Ghosts as Sink}
use Rattle.pt_io.specs.Faults.{HasRisen}
use Rattle.ep_guarded.specs.Tied.{thread_of}
use Rattle.ep_live.specs.Free.{EndedState}
use Rattle.ep_stream.specs.declared.session.Fate.{Fate}
use Rattle.ep_stream.specs.declared.session.Fate.TheVariants as fate
use Rattle.ep_stream.specs.declared.session.SessionEnd.{SessionEnd}
use Rattle.ep_live_laws.specs.Calls.{IsOutcome}
use Rattle.ep_live_laws.specs.Tracing.{AreAscending, IsOneOf, Watch, is_fault}
use Rattle.pt_stream.specs.declared.place.Place.{Place}
use Rattle.pt_stream.specs.State.{StreamState, place_at}

-- ---- the threads of which it tells

-- The thread is that of a row in one of the lives in which a session was opened there.
pub record IsServed (rows : ℕ) (places : List Place) (thread : ℕ) : Type 0 where
  pub row : ℕ
  pub life : ℕ
  pub some : 0 < row
  pub within : row ≤ rows
  pub opened : life < (place_at places row).next
  pub thread_is : thread ≡ thread_of rows (row - 1) life

-- One of these is the row's thread in the last life in which a session was opened there.
pub record HasOne (rows : ℕ) (threads : List ℕ) (row : ℕ) (place : Place) : Type 0 where
  pub life : ℕ
  pub opened : place.next ≡ life + 1
  pub has : IsOneOf threads (thread_of rows (row - 1) life)

-- The threads are those of rows, ascending, in lives up to the last in which a session was opened there, and the last thread
-- of each row where it was.
pub record AreServed (rows : ℕ) (places : List Place) (threads : List ℕ) : Type 0 where
  pub ascending : AreAscending threads
  pub each : (thread : ℕ) → IsOneOf threads thread → IsServed rows places thread
  pub all : (row : ℕ) → 0 < row → 0 < (place_at places row).next → HasOne rows threads row (place_at places row)

-- ---- an early session

-- A thread of a first life was opened before its first write.
abbrev pub IsFromFirst : ℕ → Marks → Type 0
IsFromFirst rows mark = mark.thread ≤ rows → mark.from ≡ 0

-- It had the first thread of each row where it was opened, from its first write on.
pub record AreEarly (rows : ℕ) (places : List Place) (threads : List ℕ) (marks : List Marks) : Type 0 where
  pub first : (row : ℕ) → 0 < row → 0 < (place_at places row).next → IsOneOf threads row
  pub from : AllByRecursion (IsFromFirst rows) marks

-- ---- the end

-- A session's stream has ended, where it was to end so.
pub record HasEnded {S : Type 0} (side : Sink S) (watch : Watch) (rows lives was : ℕ) (stream : StreamState) (handed : Fate) (end : SessionEnd S) : Type 0 where
  pub id_is : end.id ≡ stream.id
  pub slot_is : end.slot ≡ stream.slot
  pub conn_is : end.conn ≡ stream.conn
  pub config_is : end.config ≡ stream.config
  pub marks_are : end.marks ≡ stream.marks
  pub gave_is : side.read_side end.sink ≡ stream.gave
  -- it has a place of each row, in lives that there are
  pub count : length stream.places ≡ rows
  pub few : (row : ℕ) → 0 < row → (place_at stream.places row).next ≤ lives
  -- the threads of its marks, and what its sink took of them
  pub served : AreServed rows stream.places (map (λ mark. mark.thread) stream.marks)
  pub early : stream.early ≡ true → AreEarly rows stream.places (map (λ mark. mark.thread) stream.marks) stream.marks
  pub outcome : IsOutcome side watch (map (λ mark. mark.thread) stream.marks) handed stream.marks end.fate end.sink
  -- it ended as it was to, or by a fault
  pub fate_is : is_fault end.fate ≡ false → end.fate ≡ handed
  -- by a fault of its sink only where the sink's count of faults has risen, which else is as it was
  pub link_fault : end.fate ≡ fate.LinkFault → HasRisen was (side.write_faults end.sink)
  pub wrote : end.fate ≢ fate.LinkFault → side.write_faults end.sink ≡ was

-- What its rows leave: its slot, what it was granted, and a seat of its pool. Each write that its marks tell as refused was
-- refused because the pool was found dry.
pub record Leaves (stream : StreamState) (ended : EndedState) : Type 0 where
  pub slot_is : ended.slot ≡ stream.slot
  pub config_is : ended.grant.config ≡ stream.config
  pub spent : ended.seat.dry ≡ sum_by (λ mark. mark.refused) stream.marks
