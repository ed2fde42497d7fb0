-- What a call makes of a session over running threads (this project's profile).
use Rattle.std.specs.Prelude.{◌≡◌, ◌≢◌, ℕ, ◌<◌, ◌≤◌, false, List, ◌++◌, length, Option, None, Result}
use Rattle.std.specs.List.{sum_by}
use Rattle.ep_defs.specs.declared.limits.TheConstants.{WRITES}
use Rattle.ep_defs.specs.declared.event.EventDef.{EventDef}
use Rattle.ep_defs.specs.declared.session.Marks.{Marks}
use Rattle.ep_defs.specs.Entry.{Entry}
use Rattle.ep_guarded.specs.Tied.{AreCounted}
use Rattle.pt_io.specs.declared.sink.Sink.{Ghosts as Sink}
use Rattle.nt_write.specs.declared.fault.Fault.{Fault}
use Rattle.nt_write.specs.declared.limits.TheConstants.{FRAMED_EVENTS}
use Rattle.ep_stream.specs.declared.session.Fate.{Fate}
use Rattle.ep_stream.specs.declared.session.Fate.TheVariants as fates
use Rattle.ep_stream.specs.declared.session.Seat.{Seat}
use Rattle.ep_stream.specs.declared.session.Session.{Session}
use Rattle.ep_stream.specs.Session.{Started, Attached, Detached, Ended, SameHands, Writes, hand_on, new_rest, rest_of, writer_of}
use Rattle.ep_stream.specs.Steps.{ToldRows, TellsStep, Closes}
use Rattle.ep_stream.specs.Sweep.{Swept, TellsTakings, sweep_entries}
use Rattle.ep_stream.specs.Telling.{IsFaulty, entries_of}
use Rattle.ep_live_laws.specs.Traced.{AreMarks}
use Rattle.ep_live_laws.specs.Tracing.{IsAdmittedAs, IsOneOf, IsTracing, TookTraced, TookTracedPart, Watch, is_fault}

-- ---- what follows

-- Where the first session has told entries of some threads, the second has told the same of these.
abbrev pub TellsSame : {S : Type 0} → Sink S → Watch → List ℕ → List ℕ → Session S → Session S → Type 0
TellsSame side watch opened now old new =
    (told : List Entry) → IsTracing side watch opened told old → IsTracing side watch now told new

-- Where the first session has told entries of some threads, the second has told some more of the same threads.
abbrev pub TellsMore : {S : Type 0} → Sink S → Watch → Session S → Session S → Type 0
TellsMore side watch old new =
    (opened : List ℕ) (told : List Entry)
    → IsTracing side watch opened told old → (more : List Entry) × IsTracing side watch opened (told ++ more) new

-- ---- the calls

-- The session was just started, behind a reply.
pub record IsNew {S : Type 0} (side : Sink S) (watch : Watch) (session : Session S) : Type 0 where
  pub reply : List ℕ
  pub sink : S
  pub seat : Seat
  pub started : Started side.tells_taken side.taken reply watch.info sink session
  pub before : started.before ≡ watch.before
  pub shut : (row : ℕ) → hand_on session row ≡ None
  pub rest : rest_of session ≡ new_rest seat watch.config

-- The session was opened on a thread on which it never was, in a row on which it was not open.
pub record OpensOn {S : Type 0} (watch : Watch) (opened : List ℕ) (thread : ℕ) (old new : Session S) : Type 0 where
  pub fresh : IsOneOf opened thread → ⊥
  pub shut : hand_on old (watch.home thread) ≡ None
  pub attached : Attached (λ hand. hand.thread ≡ thread) (watch.home thread) old new
  pub writer : writer_of new ≡ writer_of old

-- The session has its hands, its writer and what else it is, but for what it has in hand.
pub record TakesNothing {S : Type 0} (old new : Session S) : Type 0 where
  pub in_hand : ℕ
  pub hands : SameHands old new
  pub rest : rest_of new ≡ record (rest_of old) { in_hand = in_hand }
  pub writer : writer_of new ≡ writer_of old

-- The session was swept with the definitions of the program's events, or as far as a fault let it.
pub record SweptIn {S : Type 0} (side : Sink S) (watch : Watch) (old new : Session S) : Type 0 where
  pub given : List EventDef
  pub stamp : ℕ
  pub count : ℕ
  pub told_old : Option ToldRows
  pub told_new : Option ToldRows
  pub result : Result ℕ Fault
  pub events : given ≡ watch.events
  pub swept : Swept
      (IsAdmittedAs watch.events watch.writes (rest_of old).config)
      (λ takings. TellsTakings (rest_of old).seat.slot takings told_old told_new)
      (λ takings. Writes side.tells_taken side.taken given (sweep_entries given (rest_of old).config.stackwalk stamp (rest_of old).named takings) old new result)
      given count old new result
  pub faulty : IsFaulty side.write_faults (writer_of old) (writer_of new) result

-- The session was closed on a row with these definitions, or as far as a fault let it.
pub record ClosedIn {S : Type 0} (side : Sink S) (watch : Watch) (old new : Session S) : Type 0 where
  pub given : List EventDef
  pub row : ℕ
  pub told_old : Option ToldRows
  pub told_new : Option ToldRows
  pub result : Result (Unit {0}) Fault
  pub events : given ≡ watch.events
  pub detached : Detached
      (IsAdmittedAs watch.events watch.writes (rest_of old).config)
      (AreCounted watch.events watch.writes (rest_of old).config)
      (λ records last chunks marks. TellsStep (Closes row (rest_of old).seat.slot records last chunks marks) told_old told_new)
      (λ records. Writes side.tells_taken side.taken given (entries_of given (rest_of old).config.stackwalk records) old new result)
      given row old new
  pub faulty : IsFaulty side.write_faults (writer_of old) (writer_of new) result

-- ---- the end

-- The session, which was opened on these threads of a run and is open on none, has ended with the definitions of the
-- program's events.
pub record EndsOver {S : Type 0} (side : Sink S) (watch : Watch) (opened : List ℕ) (handed : Fate) (session : Session S) (fate : Fate) (sink : S) : Type 0 where
  pub told : List Entry
  pub given : List EventDef
  pub stamp : ℕ
  pub events : given ≡ watch.events
  pub tracing : IsTracing side watch opened told session
  pub shut : (row : ℕ) → hand_on session row ≡ None
  pub ended : Ended side.tells_taken side.taken side.write_faults given stamp handed session fate sink

-- What such a session comes to.
pub record IsOutcome {S : Type 0} (side : Sink S) (watch : Watch) (opened : List ℕ) (handed : Fate) (marks : List Marks) (fate : Fate) (sink : S) : Type 0 where
  -- its marks are those of the threads
  pub marks_are : AreMarks watch.events watch.config watch.writes opened marks
  -- where it ended well its sink took the stream of all that the threads wrote and it got, less what its marks count as
  -- refused, with the section where it was asked for a rundown
  pub whole : is_fault fate ≡ false → ((thread : ℕ) → length (watch.writes thread) ≤ WRITES) → TookTraced side watch.before watch.info watch.events watch.config watch.writes marks sink
  -- whatever its fate is, it took what begins the stream of a part of that
  pub part : TookTracedPart side watch.before watch.info watch.events watch.config watch.writes marks sink
  -- where it ran out of stack ids, more events were taken of the threads than there are ids
  pub too_long : handed ≢ fates.TooLong → fate ≡ fates.TooLong → FRAMED_EVENTS < sum_by (λ mark. mark.taken) marks
