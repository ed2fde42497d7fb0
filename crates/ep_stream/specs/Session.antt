-- What a session keeps between calls, and what each call makes of it (this project's profile).
use Rattle.std.specs.Prelude.{◌≡◌, ◌≢◌, ℕ, ◌⊎◌, Bool, true, false, ◌==◌, if◌then◌else◌, List, [], ◌++◌, length, Option, Some, None, Result, Err, IfOk, slice_get, IsTrue}
use Rattle.std.specs.List.{All}
use Rattle.std.specs.Option.{option_map_or}
use Rattle.ep_defs.specs.Definitions.{definition_at}
use Rattle.ep_defs.specs.declared.event.EventDef.{EventDef}
use Rattle.ep_defs.specs.declared.session.Config.{Config}
use Rattle.ep_defs.specs.declared.session.Marks.{Marks}
use Rattle.ep_defs.specs.declared.session.Write.{Write}
use Rattle.ep_defs.specs.declared.session.TraceInfo.{TraceInfo}
use Rattle.ep_defs.specs.Entry.{Entry}
use Rattle.ep_rundown.specs.Rundown.{ending}
use Rattle.ep_chunk.specs.Record.{Record}
use Rattle.ep_slot.specs.Hand.{HandState}
use Rattle.ep_row.specs.AtRest.{write_of}
use Rattle.nt_write.specs.declared.fault.Fault.{Fault}
use Rattle.nt_write.specs.declared.writer.TraceWriter.{TraceWriter}
use Rattle.nt_write.specs.Writer.{sink_of as writer_sink, fault_of as writer_fault, TookPart, point_of}
use Rattle.ep_stream.specs.declared.opened.Named.{Named}
use Rattle.ep_stream.specs.declared.session.Seat.{Seat}
use Rattle.ep_stream.specs.declared.session.Session.{Session}
use Rattle.ep_stream.specs.Rows.{first_hand, hand_after, IsBatch, IsMarked}
use Rattle.ep_stream.specs.Steps.{ToldRows, TellsStep, Steals, Closes}
use Rattle.ep_stream.specs.Telling.{IsTelling, TellsNext, Ends, entries_of}
use Rattle.ep_stream.specs.Named.{first_named, insert_by, with_number, with_marks, numbers_of}
use Rattle.ep_stream.specs.Opened as opened
use Rattle.ep_stream.specs.Fates.{fate_after}
use Rattle.ep_stream.specs.declared.session.Fate.{Fate}
use Rattle.nt_write.specs.declared.fault.Fault.TheVariants.{WriteFault}
use Rattle.pt_io.specs.Faults.{HasRisen}
use Rattle.pt_io.specs.Taken.{TookPart as TookPartOf}

-- ---- the parts of a session

abbrev pub writer_of : {S : Type 0} → Session S → TraceWriter S
writer_of session = session.writer

-- The sink, with what it took so far.
abbrev pub sink_of : {S : Type 0} → Session S → S
sink_of session = writer_sink session.writer

-- The fault that it answered, if it did.
abbrev pub fault_of : {S : Type 0} → Session S → Option Fault
fault_of session = writer_fault session.writer

-- The hand of a row on which the session is open.
abbrev pub hand_on : {S : Type 0} → Session S → ℕ → Option HandState
hand_on session row = opened.hand_on session.opened row

-- On how many threads it was opened.
abbrev pub opened_count : {S : Type 0} → Session S → ℕ
opened_count session = opened.opened_count session.opened

-- What else a session is.
pub record Rest : Type 0 where
  pub seat : Seat
  pub config : Config
  -- the threads that the next point names, ascending
  pub named : List Named
  -- what the session had of each thread on which it was closed, ascending by thread
  pub marks : List Marks
  -- how many chunks it took and did not give back
  pub in_hand : ℕ

abbrev pub rest_of : {S : Type 0} → Session S → Rest
rest_of session =
    record {
      seat = session.place.seat;
      config = session.config;
      named = opened.named_in session.opened;
      marks = opened.marks_in session.opened;
      in_hand = option_map_or (λ batch. length batch.chain) session.batch 0;
    }

-- A session of this seat and configuration that is open nowhere.
abbrev pub new_rest : Seat → Config → Rest
new_rest seat config = record { seat = seat; config = config; named = []; marks = []; in_hand = 0 }

-- What a session is once it was opened on a thread.
abbrev pub with_opened : ℕ → Rest → Rest
with_opened thread rest = record rest { named = insert_by (λ n. n.thread) (first_named thread) rest.named }

-- What it is once all was taken that it had pending on a thread, up to this number and in so many chunks.
abbrev pub with_stolen : ℕ → ℕ → ℕ → Rest → Rest
with_stolen thread last chunks rest = record rest { named = with_number thread last true rest.named; in_hand = chunks }

-- The same once it was closed on the thread too, with these marks.
abbrev pub with_closed : ℕ → ℕ → ℕ → Marks → Rest → Rest
with_closed thread last chunks marks rest =
    record rest { named = with_number thread last false rest.named; marks = with_marks marks rest.marks; in_hand = chunks }

-- The thread is one on which the session is open or was.
abbrev pub WasOpened : {S : Type 0} → Session S → ℕ → Type 0
WasOpened session thread =
    ((row : ℕ) × (hand : HandState) × (hand_on session row ≡ Some hand) × (hand.thread ≡ thread))
    ⊎ ((place : ℕ) × (mark : Marks) × (slice_get (rest_of session).marks place ≡ Some mark) × (mark.thread ≡ thread))

-- The rows are those of the session: they expect its hands, with its configuration, and know of its chunks in hand.
pub record AreRowsOf {S R : Type 0} (expected : R → ℕ → ℕ → Option HandState) (configured : R → ℕ → ℕ → Option Config) (out : R → ℕ → ℕ) (rows : R) (session : Session S) : Type 0 where
  pub hands : (row : ℕ) → expected rows row (rest_of session).seat.slot ≡ hand_on session row
  pub configs : (row : ℕ) (hand : HandState) → hand_on session row ≡ Some hand → configured rows row (rest_of session).seat.slot ≡ Some (rest_of session).config
  pub chunks : out rows (rest_of session).seat.slot ≡ (rest_of session).in_hand

-- The hands are as before, but on one row.
abbrev pub SetsHand : {S : Type 0} → ℕ → Option HandState → Session S → Session S → Type 0
SetsHand row hand old new = (r : ℕ) → hand_on new r ≡ (if r == row then hand else hand_on old r)

abbrev pub SameHands : {S : Type 0} → Session S → Session S → Type 0
SameHands old new = (r : ℕ) → hand_on new r ≡ hand_on old r

-- ---- what the calls make

-- The session tells nothing yet, behind the reply that its sink took.
pub record Started {S : Type 0} (tells : S → Bool) (taken : S → List ℕ) (reply : List ℕ) (info : TraceInfo) (sink : S) (session : Session S) : Type 0 where
  pub before : List ℕ
  pub reply_is : IsTrue (tells sink) → before ≡ taken sink ++ reply
  pub telling : (events : List EventDef) → IsTelling tells taken before (definition_at events) info [] (writer_of session)

-- Where a session can't be started its sink took a part of the reply, or all of it and what begins a stream.
abbrev pub TookStart : {S : Type 0} → (S → Bool) → (S → List ℕ) → List ℕ → TraceInfo → S → S → Type 0
TookStart tells taken reply info old new =
    TookPartOf tells taken old new reply
    ⊎ ((before : List ℕ) × (IsTrue (tells old) → before ≡ taken old ++ reply) × TookPart tells taken before info [] new)

-- The session was opened on a row.
pub record Attached {S : Type 0} (Tested : HandState → Type 0) (row : ℕ) (old new : Session S) : Type 0 where
  pub hand : HandState
  pub fresh : hand ≡ first_hand (rest_of old).seat.id hand.thread hand.from
  pub tested : Tested hand
  pub hands : SetsHand row (Some hand) old new
  pub rest : rest_of new ≡ with_opened hand.thread (rest_of old)

-- The records of a batch that was taken with a hand, each of which passed the test.
pub record Batched (Tested : ℕ → ℕ → ℕ → Write → Type 0) (events : List EventDef) (hand : HandState) (records : List Record) (last : ℕ) : Type 0 where
  pub batch : IsBatch events hand records last
  pub tested : All (λ r. Tested hand.thread hand.from r.number (write_of r)) records

-- All that a row had pending was taken: it is in hand, and the point knows of it.
pub record Stolen {S : Type 0} (Tested : ℕ → ℕ → ℕ → Write → Type 0) (Told : List Record → ℕ → ℕ → Type 0) (Writes : List Record → Type 0) (events : List EventDef) (row : ℕ) (old new : Session S) (result : Result ℕ Fault) : Type 0 where
  pub hand : HandState
  pub records : List Record
  pub last : ℕ
  pub chunks : ℕ
  pub was : hand_on old row ≡ Some hand
  pub batched : Batched Tested events hand records last
  pub told : Told records last chunks
  pub writes : Writes records
  pub hands : SetsHand row (Some (hand_after hand (length records) last chunks)) old new
  pub rest : rest_of new ≡ with_stolen hand.thread last chunks (rest_of old)
  pub counted : IfOk result (λ count. count ≡ length records)

-- The session was closed on a row: the same, and its marks are kept.
pub record Detached {S : Type 0} (Tested : ℕ → ℕ → ℕ → Write → Type 0) (TestedMarks : Marks → Type 0) (Told : List Record → ℕ → ℕ → Marks → Type 0) (Writes : List Record → Type 0) (events : List EventDef) (row : ℕ) (old new : Session S) : Type 0 where
  pub hand : HandState
  pub records : List Record
  pub last : ℕ
  pub chunks : ℕ
  pub marks : Marks
  pub was : hand_on old row ≡ Some hand
  pub batched : Batched Tested events hand records last
  pub marked : IsMarked hand records last marks
  pub tested_marks : TestedMarks marks
  pub told : Told records last chunks marks
  pub writes : Writes records
  pub hands : SetsHand row None old new
  pub rest : rest_of new ≡ with_closed hand.thread last chunks marks (rest_of old)

-- ---- what the sink took

-- The call was to tell these entries, after those that were told before.
abbrev pub Writes : {S A : Type 0} → (S → Bool) → (S → List ℕ) → List EventDef → List Entry → Session S → Session S → Result A Fault → Type 0
Writes tells taken events entries old new result =
    TellsNext tells taken (definition_at events) entries (writer_of old) (writer_of new) result

-- ---- over the rows of a set

-- All that a row of a set had pending was taken: each record passed the set's test, the set's rows tell the Steal, and the
-- stream tells the records.
abbrev pub StolenFrom : {S : Type 0} → (S → Bool) → (S → List ℕ) → (Config → ℕ → ℕ → ℕ → Write → Type 0) → Option ToldRows → Option ToldRows → List EventDef → ℕ → Session S → Session S → Result ℕ Fault → Type 0
StolenFrom tells taken tests rows_old rows_new events row old new result =
    Stolen
    (tests (rest_of old).config)
    (λ records last chunks. TellsStep (Steals row (rest_of old).seat.slot records last chunks) rows_old rows_new)
    (λ records. Writes tells taken events (entries_of events (rest_of old).config.stackwalk records) old new result)
    events row old new result

-- The session was closed on a row of a set: the same of the Close, and its marks passed the set's test on marks.
abbrev pub DetachedFrom : {S A : Type 0} → (S → Bool) → (S → List ℕ) → (Config → ℕ → ℕ → ℕ → Write → Type 0) → (Config → Marks → Type 0) → Option ToldRows → Option ToldRows → List EventDef → ℕ → Session S → Session S → Result A Fault → Type 0
DetachedFrom tells taken tests tests_marks rows_old rows_new events row old new result =
    Detached
    (tests (rest_of old).config)
    (tests_marks (rest_of old).config)
    (λ records last chunks marks. TellsStep (Closes row (rest_of old).seat.slot records last chunks marks) rows_old rows_new)
    (λ records. Writes tells taken events (entries_of events (rest_of old).config.stackwalk records) old new result)
    events row old new

-- ---- the end

-- What a session's stream ends with once these entries were told: the section, where it was asked for a rundown, and the
-- last point.
abbrev pub last_entries : ℕ → List Entry → Rest → List Entry
last_entries stamp told rest = ending rest.config.rundown told (point_of stamp (numbers_of rest.named))

-- The session's stream was ended with that, or the session has failed; its fate says which. A fault of the sink is
-- this call's or was there before, and without one the sink's count of faults is as before.
pub record Ended {S : Type 0} (tells : S → Bool) (taken : S → List ℕ) (faults : S → ℕ) (events : List EventDef) (stamp : ℕ) (handed : Fate) (session : Session S) (fate : Fate) (sink : S) : Type 0 where
  pub answer : Result (Unit {0}) Fault
  pub fate_is : fate ≡ fate_after answer handed
  pub stream : (before : List ℕ) (info : TraceInfo) (told : List Entry)
      → IsTelling tells taken before (definition_at events) info told (writer_of session)
      → Ends tells taken before info told (last_entries stamp told (rest_of session)) answer sink
  pub stays : (fault : Fault) → fault_of session ≡ Some fault → answer ≡ Err fault
  pub write_fault : answer ≡ Err WriteFault → (fault_of session ≡ Some WriteFault) ⊎ HasRisen (faults (sink_of session)) (faults sink)
  pub wrote : answer ≢ Err WriteFault → faults sink ≡ faults (sink_of session)
