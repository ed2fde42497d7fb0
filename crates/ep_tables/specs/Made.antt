-- What each step that is made makes of the tables of sessions, threads and rows: what is named here, and nothing else
-- (this project's profile).
use Rattle.std.specs.Prelude.{◌≡◌, ℕ, ◌+◌, ◌^◌, ◌<◌, ◌≤◌, ◌==◌, ◌||◌, if◌then◌else◌, true, false, List, [], ◌∷◌, ◌++◌, length, Some, None, is_some, slice_get, slice_set, position, IsNone, IsTrue}
use Rattle.std.specs.Int.{is_in_range}
use Rattle.std.specs.List.{All, remove}
use Rattle.std.specs.BTreeMap.{get, btree_map_len}
use Rattle.std.specs.Ordering.{nat_cmp}
use Rattle.ep_defs.specs.declared.limits.TheConstants.{SESSIONS, THREADS, WRITES}
use Rattle.ep_defs.specs.Definitions.{definition_at}
use Rattle.ep_defs.specs.Entry.{Entry, Point}
use Rattle.ep_defs.specs.Session.{fits}
use Rattle.ep_defs.specs.declared.event.EventDef.{EventDef}
use Rattle.ep_defs.specs.declared.session.Config.{Config}
use Rattle.ep_defs.specs.declared.session.Marks.{Marks}
use Rattle.ep_defs.specs.declared.session.TraceInfo.{TraceInfo}
use Rattle.ep_defs.specs.declared.session.Write.{Write}
use Rattle.pt_io.specs.Memory.{SinkState}
use Rattle.nt_write.specs.declared.limits.TheConstants.{FRAMED_EVENTS}
use Rattle.nt_write.specs.Writable.{framed}
use Rattle.nt_write.specs.Writer.{point_of}
use Rattle.ep_chunk.specs.Record.{Record}
use Rattle.ep_table.specs.Sessions.{accepted_by, after_accept, after_free, no_sessions}
use Rattle.ep_table.specs.declared.table.Accepted.TheVariants.{Seat as SeatAt}
use Rattle.ep_slot.specs.declared.shown.Shown.{Shown}
use Rattle.ep_slot.specs.Hand.{HandState}
use Rattle.ep_slot.specs.Slot.{SlotState}
use Rattle.ep_stream.specs.Rows.{IsRow, hand_after}
use Rattle.ep_stream.specs.Steps.{ToldRows, Opens, Steals, Closes}
use Rattle.ep_stream.specs.Sweep.{TellsGive}
use Rattle.ep_stream.specs.Telling.{IsTelling, IsFront, entries_of}
use Rattle.ep_stream.specs.Named.{with_number, with_marks, still_open, numbers_of}
use Rattle.ep_stream.specs.Session.{rest_of, hand_on, writer_of, new_rest, opened_count, fault_of, SetsHand, SameHands, Attached, Ended}
use Rattle.ep_stream.specs.declared.session.SessionEnd.{SessionEnd}
use Rattle.ep_stream.specs.declared.session.Fate.TheVariants.{ProgramEnd}
use Rattle.ep_rows.specs.Rows.{told_of, definitions_of, AreFresh}
use Rattle.ep_rows.specs.Told.{no_chunks}
use Rattle.ep_rows.specs.Writes.{Begins, Ends, Leaves, Enters, Shows, SetsPool}
use Rattle.ep_tables.specs.declared.tables.Present.{Present}
use Rattle.ep_tables.specs.declared.tables.Tables.{Tables}
use Rattle.ep_tables.specs.Tables.{row_of}

-- ---- what stays

-- The definitions stay.
pub record KeepsEvents (old new : Tables) : Type 0 where
  pub events : new.events ≡ old.events
  pub known : definitions_of new.rows ≡ definitions_of old.rows

-- Which threads are there stays.
pub record KeepsThreads (old new : Tables) : Type 0 where
  pub threads : new.threads ≡ old.threads
  pub last_thread : new.last_thread ≡ old.last_thread

-- Which sessions are present stays.
pub record KeepsSlots (old new : Tables) : Type 0 where
  pub table : new.table ≡ old.table
  pub last_session : new.last_session ≡ old.last_session

-- What the tables have of sessions stays.
pub record KeepsSessions (old new : Tables) : Type 0 where
  pub present : new.present ≡ old.present
  pub slots : KeepsSlots old new

-- ---- steps of threads

-- One row of a thread changes in this way, and nothing else but the count of writes.
pub record ChangesOwn (thread : ℕ) (Changes : ℕ → ToldRows → ToldRows → Type 0) (old new : Tables) : Type 0 where
  pub row : ℕ
  pub own : row_of old thread ≡ Some row
  pub is_row : IsRow THREADS row
  pub rows : Changes row (told_of old.rows) (told_of new.rows)
  pub events : KeepsEvents old new
  pub threads : KeepsThreads old new
  pub sessions : KeepsSessions old new

-- Only slots of sessions are due on the row.
abbrev pub FitsSlots : Tables → ℕ → Type 0
FitsSlots tables row = ((told_of tables.rows).row row).due < 2 ^ SESSIONS

-- A Begin: the thread's row begins the write.
pub record MakesBegin (thread stamp : ℕ) (write : Write) (old new : Tables) : Type 0 where
  pub own : ChangesOwn thread (λ row. Begins row stamp write) old new
  pub due : FitsSlots new own.row
  pub begins : new.begins ≡ old.begins + 1

-- An End: the thread's row ends its write.
pub record MakesEnd (thread : ℕ) (old new : Tables) : Type 0 where
  pub own : ChangesOwn thread Ends old new
  pub begins : new.begins ≡ old.begins

-- A Leave: the row of the thread is told that it left.
pub record MakesLeave (thread : ℕ) (old new : Tables) : Type 0 where
  pub own : ChangesOwn thread Leaves old new
  pub begins : new.begins ≡ old.begins

-- A thread takes a row whose thread has left, and on which no session is open.
pub record MakesEnter (thread : ℕ) (old new : Tables) : Type 0 where
  pub row : ℕ
  pub is_row : IsRow THREADS row
  pub left : ((told_of old.rows).row row).left ≡ true
  pub off : All IsNone ((told_of old.rows).row row).slots
  pub rows : Enters row thread (told_of old.rows) (told_of new.rows)
  pub given : (t : ℕ) → get nat_cmp new.threads t ≡ (if t == thread then Some row else get nat_cmp old.threads t)
  pub last_thread : new.last_thread ≡ thread
  pub events : KeepsEvents old new
  pub sessions : KeepsSessions old new
  pub begins : new.begins ≡ old.begins

-- ---- steps of a session on a thread

-- A session that is present, by its place.
pub record StandsAt (session : ℕ) (tables : Tables) (place : ℕ) (present : Present) : Type 0 where
  pub first : position (λ (p : Present). p.number == session) tables.present.items ≡ Some place
  pub there : slice_get tables.present.items place ≡ Some present

-- One session that is present changes in this way, the rows in that, and nothing else.
pub record ChangesOne (session : ℕ) (Changes : Present → Present → ToldRows → ToldRows → Type 0) (old new : Tables) : Type 0 where
  pub place : ℕ
  pub was : Present
  pub now : Present
  pub stands : StandsAt session old place was
  pub sessions : new.present.items ≡ slice_set old.present.items place now
  pub number : now.number ≡ was.number
  pub slot : now.slot ≡ was.slot
  pub seat : (rest_of now.session).seat ≡ (rest_of was.session).seat
  pub config : (rest_of now.session).config ≡ (rest_of was.session).config
  pub changes : Changes was now (told_of old.rows) (told_of new.rows)
  pub events : KeepsEvents old new
  pub threads : KeepsThreads old new
  pub slots : KeepsSlots old new
  pub begins : new.begins ≡ old.begins

-- The session was opened on the row of a thread.
pub record OpensOn (events : List EventDef) (thread row : ℕ) (was now : Present) (old new : ToldRows) : Type 0 where
  pub attached : Attached (λ (hand : HandState). hand.thread ≡ (old.row row).thread) row was.session now.session
  pub told : Opens events row was.slot (rest_of was.session).seat.id (rest_of was.session).config old new
  pub writer : writer_of now.session ≡ writer_of was.session
  pub ever : (t : ℕ) → is_some (get nat_cmp now.opened t) ≡ ((t == thread) || is_some (get nat_cmp was.opened t))
  pub count : btree_map_len now.opened ≡ btree_map_len was.opened + 1

-- What the session's sink takes in its memory.
abbrev pub TellsIn : List EventDef → List Entry → Present → Present → Type 0
TellsIn events entries was now =
    (before : List ℕ) (info : TraceInfo) (told : List Entry)
    → IsTelling (λ (s : SinkState). true) (λ (s : SinkState). s.taken) before (definition_at events) info told (writer_of was.session)
    → IsTelling (λ (s : SinkState). true) (λ (s : SinkState). s.taken) before (definition_at events) info (told ++ entries) (writer_of now.session)

-- All that the row had pending is in the session's hand, and told.
pub record StealsOn (events : List EventDef) (row : ℕ) (was now : Present) (old new : ToldRows) : Type 0 where
  pub hand : HandState
  pub records : List Record
  pub last : ℕ
  pub chunks : ℕ
  pub held : hand_on was.session row ≡ Some hand
  pub empty : (rest_of was.session).in_hand ≡ 0
  pub told : Steals row was.slot records last chunks old new
  pub hands : SetsHand row (Some (hand_after hand (length records) last chunks)) was.session now.session
  pub rest : rest_of now.session ≡ record (rest_of was.session) { named = with_number hand.thread last true (rest_of was.session).named; in_hand = chunks }
  pub tells : TellsIn events (entries_of events (rest_of was.session).config.stackwalk records) was now
  pub opened : now.opened ≡ was.opened

-- The same, and the session is closed on the row.
pub record ClosesOn (events : List EventDef) (row : ℕ) (was now : Present) (old new : ToldRows) : Type 0 where
  pub hand : HandState
  pub records : List Record
  pub last : ℕ
  pub chunks : ℕ
  pub marks : Marks
  pub held : hand_on was.session row ≡ Some hand
  pub empty : (rest_of was.session).in_hand ≡ 0
  pub told : Closes row was.slot records last chunks marks old new
  pub hands : SetsHand row None was.session now.session
  pub rest : rest_of now.session ≡ record (rest_of was.session) { named = with_number hand.thread last false (rest_of was.session).named; marks = with_marks marks (rest_of was.session).marks; in_hand = chunks }
  pub tells : TellsIn events (entries_of events (rest_of was.session).config.stackwalk records) was now
  pub opened : now.opened ≡ was.opened

-- What was in hand is given back.
pub record Gives (was now : Present) (old new : ToldRows) : Type 0 where
  pub told : TellsGive was.slot (rest_of was.session).in_hand (Some old) (Some new)
  pub hands : SameHands was.session now.session
  pub rest : rest_of now.session ≡ record (rest_of was.session) { in_hand = 0 }
  pub writer : writer_of now.session ≡ writer_of was.session
  pub opened : now.opened ≡ was.opened

-- A point is told.
pub record Points (events : List EventDef) (stamp : ℕ) (was now : Present) (old new : ToldRows) : Type 0 where
  pub told : new ≡ old
  pub hands : SameHands was.session now.session
  pub rest : rest_of now.session ≡ record (rest_of was.session) { named = still_open (rest_of was.session).named }
  pub tells : TellsIn events (Point (point_of stamp (numbers_of (rest_of was.session).named)) ∷ []) was now
  pub opened : now.opened ≡ was.opened

-- An Open: the session is opened on the thread's row.
pub record MakesOpen (session thread : ℕ) (old new : Tables) : Type 0 where
  pub row : ℕ
  pub own : row_of old thread ≡ Some row
  pub is_row : IsRow THREADS row
  pub one : ChangesOne session (OpensOn old.events.items thread row) old new

-- A Steal: the session takes what the thread's row has for it.
pub record MakesSteal (session thread : ℕ) (old new : Tables) : Type 0 where
  pub row : ℕ
  pub own : row_of old thread ≡ Some row
  pub is_row : IsRow THREADS row
  pub one : ChangesOne session (StealsOn old.events.items row) old new

-- A Close: the session takes what the thread's row has for it, and is closed there.
pub record MakesClose (session thread : ℕ) (old new : Tables) : Type 0 where
  pub row : ℕ
  pub own : row_of old thread ≡ Some row
  pub is_row : IsRow THREADS row
  pub one : ChangesOne session (ClosesOn old.events.items row) old new

-- A Give: the session hands back what it took.
abbrev pub MakesGive : ℕ → Tables → Tables → Type 0
MakesGive session old new = ChangesOne session Gives old new

-- A Point: the session's stream has one more point.
abbrev pub MakesPoint : ℕ → ℕ → Tables → Tables → Type 0
MakesPoint session stamp old new = ChangesOne session (Points old.events.items stamp) old new

-- The row's write is shown to the session, which keeps or refuses it.
pub record MakesShow (thread session : ℕ) (write : Write) (old new : Tables) : Type 0 where
  pub row : ℕ
  pub own : row_of old thread ≡ Some row
  pub is_row : IsRow THREADS row
  pub place : ℕ
  pub present : Present
  pub stands : StandsAt session old place present
  pub shown : Shown
  pub rows : Shows row present.slot write shown (told_of old.rows) (told_of new.rows)
  pub due : FitsSlots new row
  pub events : KeepsEvents old new
  pub threads : KeepsThreads old new
  pub sessions : KeepsSessions old new
  pub begins : new.begins ≡ old.begins

-- ---- a session comes and goes

-- A session begins: nothing is told yet, and it is open on no row and was opened on no thread.
pub record HasBegun (session slot : ℕ) (config : Config) (info : TraceInfo) (now : Present) : Type 0 where
  pub number : now.number ≡ session
  pub slot_is : now.slot ≡ slot
  pub rest : rest_of now.session ≡ new_rest (record { slot = now.slot; id = now.number; conn = 0 }) config
  pub hands : (row : ℕ) → hand_on now.session row ≡ None
  pub count : opened_count now.session ≡ 0
  pub sound : fault_of now.session ≡ None
  pub ever : (t : ℕ) → get nat_cmp now.opened t ≡ None
  pub len : btree_map_len now.opened ≡ 0
  pub begun : (events : List EventDef) → IsTelling (λ (s : SinkState). true) (λ (s : SinkState). s.taken) [] (definition_at events) info [] (writer_of now.session)

-- The session stands first among those that are present, with a slot and its chunks.
pub record MakesAccept (session : ℕ) (config : Config) (info : TraceInfo) (old new : Tables) : Type 0 where
  pub now : Present
  pub id : ℕ
  pub seat : accepted_by old.table ≡ SeatAt now.slot id
  pub table : new.table ≡ after_accept old.table
  pub number : now.number ≡ session
  pub rest : (conn : ℕ) × (rest_of now.session ≡ new_rest (record { slot = now.slot; id = session; conn = conn }) config)
  pub hands : (row : ℕ) → hand_on now.session row ≡ None
  pub ever : (t : ℕ) → get nat_cmp now.opened t ≡ None
  pub count : btree_map_len now.opened ≡ 0
  pub begun : (events : List EventDef) → IsTelling (λ (s : SinkState). true) (λ (s : SinkState). s.taken) [] (definition_at events) info [] (writer_of now.session)
  pub sessions : new.present.items ≡ now ∷ old.present.items
  pub rows : SetsPool now.slot (record { total = config.chunks; free = config.chunks }) (told_of old.rows) (told_of new.rows)
  pub last_session : new.last_session ≡ session
  pub events_stay : KeepsEvents old new
  pub threads : KeepsThreads old new
  pub begins : new.begins ≡ old.begins

-- The session is present no more, and its slot is free.
pub record MakesFinish (session : ℕ) (old new : Tables) : Type 0 where
  pub place : ℕ
  pub was : Present
  pub stands : StandsAt session old place was
  pub sessions : new.present.items ≡ remove old.present.items place
  pub table : new.table ≡ after_free old.table was.slot
  pub rows : SetsPool was.slot no_chunks (told_of old.rows) (told_of new.rows)
  pub last_session : new.last_session ≡ old.last_session
  pub events : KeepsEvents old new
  pub threads : KeepsThreads old new
  pub begins : new.begins ≡ old.begins

-- ---- what a step needs or may find besides

-- The table has an id for a session more.
abbrev pub HasId : Tables → Type 0
HasId tables = tables.table.next < 2 ^ 63

-- The thread of a row has a number left for a write.
abbrev pub HasNumber : Tables → ℕ → Type 0
HasNumber tables row = ((told_of tables.rows).row row).index < WRITES

-- A session can take the write of a thread: it is open on the thread's row with a number left, and its chunks are those
-- of its budget.
pub record CanTake (thread session : ℕ) (write : Write) (tables : Tables) : Type 0 where
  pub row : ℕ
  pub own : row_of tables thread ≡ Some row
  pub place : ℕ
  pub present : Present
  pub stands : StandsAt session tables place present
  pub buffer : SlotState
  pub slot_is : (told_of tables.rows).slot row present.slot ≡ Some buffer
  pub few : buffer.used < WRITES
  pub total : ((told_of tables.rows).pool present.slot).total ≡ buffer.chunks
  pub event : 0 < write.event
  pub events : write.event ≤ length (definitions_of tables.rows)
  pub fit : IsTrue (fits write)

-- Some of these entries, from the first one on, and those that were told before have more events with a stack since a
-- point than there are stack ids.
abbrev pub IsSpent : List EventDef → List Entry → Present → Type 0
IsSpent events entries was =
    (before : List ℕ) (info : TraceInfo) (told : List Entry)
    → IsTelling (λ (s : SinkState). true) (λ (s : SinkState). s.taken) before (definition_at events) info told (writer_of was.session)
    → (done : List Entry) × IsFront done entries × (FRAMED_EVENTS < framed (told ++ done))

-- A Steal or a Close ran out of stack ids.
pub record RunsOut (session thread : ℕ) (tables : Tables) : Type 0 where
  pub row : ℕ
  pub own : row_of tables thread ≡ Some row
  pub place : ℕ
  pub was : Present
  pub stands : StandsAt session tables place was
  pub buffer : SlotState
  pub slot_is : (told_of tables.rows).slot row was.slot ≡ Some buffer
  pub spent : IsSpent tables.events.items (entries_of tables.events.items (rest_of was.session).config.stackwalk buffer.records) was

-- A Point ran out of stack ids.
pub record PointRunsOut (session stamp : ℕ) (tables : Tables) : Type 0 where
  pub place : ℕ
  pub was : Present
  pub stands : StandsAt session tables place was
  pub spent : IsSpent tables.events.items (Point (point_of stamp (numbers_of (rest_of was.session).named)) ∷ []) was

-- What is left of a session that was present.
pub record EndsAs (session stamp : ℕ) (tables : Tables) (end : SessionEnd SinkState) : Type 0 where
  pub place : ℕ
  pub was : Present
  pub stands : StandsAt session tables place was
  pub marks : end.marks ≡ (rest_of was.session).marks
  pub ended : Ended (λ (s : SinkState). true) (λ (s : SinkState). s.taken) (λ (s : SinkState). s.faults) tables.events.items stamp ProgramEnd was.session end.fate end.sink

-- ---- before the first step

-- Threads 1 to 256 have the rows of their numbers, and no session is there.
pub record IsStart (events : List EventDef) (tables : Tables) : Type 0 where
  pub events_are : tables.events.items ≡ events
  pub known : definitions_of tables.rows ≡ events
  pub rows : AreFresh (length events) (told_of tables.rows)
  pub threads : (t : ℕ) → get nat_cmp tables.threads t ≡ (if is_in_range 1 THREADS t then Some t else None)
  pub present : tables.present.items ≡ []
  pub table : tables.table ≡ no_sessions
  pub last_session : tables.last_session ≡ 0
  pub last_thread : tables.last_thread ≡ THREADS
  pub begins : tables.begins ≡ 0
