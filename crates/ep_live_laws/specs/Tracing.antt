-- What a session has told of running threads while it is open on them: each thread has a row, and a row may serve
-- several threads, one after another (this project's profile).
use Rattle.std.specs.Prelude.{◌≡◌, ℕ, ◌+◌, ◌-◌, ◌^◌, ◌<◌, ◌≤◌, Bool, true, false, not, List, [], ◌∷◌, ◌++◌, length, map, filter, Option, Some, None, slice_get, ◌==◌}
use Rattle.std.specs.List.{list_any, list_all, AllByRecursion}
use Rattle.ep_defs.specs.Definitions.{definition_at}
use Rattle.ep_defs.specs.declared.event.EventDef.{EventDef}
use Rattle.ep_defs.specs.declared.session.Config.{Config}
use Rattle.ep_defs.specs.declared.session.Marks.{Marks}
use Rattle.ep_defs.specs.declared.session.TraceInfo.{TraceInfo}
use Rattle.ep_defs.specs.declared.session.Write.{Write}
use Rattle.ep_defs.specs.Entry.{Entry, Event, Point}
use Rattle.ep_defs.specs.Gaps.{Sighting, Known, sightings, missing}
use Rattle.ep_rundown.specs.Rundown.{with_section}
use Rattle.ep_model.specs.Faithful.{events_of, last_sighting}
use Rattle.ep_model.specs.History.{admitted_from}
use Rattle.ep_slot.specs.Hand.{HandState}
use Rattle.ep_guarded.specs.Tied.{AreCounted}
use Rattle.pt_io.specs.declared.sink.Sink.{Ghosts as Sink}
use Rattle.nt_write.specs.Writer.{TookPart, TookStream}
use Rattle.ep_stream.specs.declared.opened.Named.{Named}
use Rattle.ep_stream.specs.declared.session.Fate.{Fate}
use Rattle.ep_stream.specs.declared.session.Fate.TheVariants as fate
use Rattle.ep_stream.specs.declared.session.Session.{Session}
use Rattle.ep_stream.specs.Session.{writer_of, fault_of, hand_on, rest_of}
use Rattle.ep_stream.specs.Telling.{IsFront, IsTelling}
use Rattle.ep_live_laws.specs.Traced.{AreInPlace, ArePart, AreRising, AreTraced, contents_from}

-- ---- a session over a run

-- A session over a run of threads, which stays what it is.
pub record Watch : Type 0 where
  pub events : List EventDef
  -- all that a thread writes in the run
  pub writes : ℕ → List Write
  -- the row of a thread
  pub home : ℕ → ℕ
  -- the session's configuration, what its stream says of the trace, and what its sink took before the stream
  pub config : Config
  pub info : TraceInfo
  pub before : List ℕ

-- The test of records over a run: the write is the one with this number among those of the thread, from the opening
-- on, that the session gets.
abbrev pub IsAdmittedAs : List EventDef → (ℕ → List Write) → Config → ℕ → ℕ → ℕ → Write → Type 0
IsAdmittedAs events writes config thread from number write =
    slice_get (admitted_from events (Some config) from (writes thread)) (number - 1) ≡ Some write

-- ---- lists of threads

-- The thread is one of these.
abbrev pub IsOneOf : List ℕ → ℕ → Type 0
IsOneOf threads thread = list_any (λ t. t == thread) threads ≡ true

-- Each number is below all that stand behind it.
abbrev pub AreAscending : List ℕ → Type 0
AreAscending [] = Unit {0}
AreAscending (n ∷ ns) = AllByRecursion (λ m. n < m) ns × AreAscending ns

-- ---- what the session had of each thread

-- What the session had of a thread so far.
pub record Account : Type 0 where
  -- how many writes the thread had made when the session was opened on it, and when it was closed
  pub from : ℕ
  pub to : ℕ
  -- how many of its events were taken
  pub taken : ℕ
  -- the last number that was used when something was last taken, or 0
  pub last : ℕ
  pub is_open : Bool
  -- the next point names it
  pub is_named : Bool

-- The marks of a thread on which the session was closed.
abbrev pub marks_by : (ℕ → Account) → ℕ → Marks
marks_by accounts thread =
    record {
      thread = thread;
      from = (accounts thread).from;
      to = (accounts thread).to;
      taken = (accounts thread).taken;
      refused = (accounts thread).last - (accounts thread).taken;
    }

-- What the next point says of a thread.
abbrev pub name_by : (ℕ → Account) → ℕ → Named
name_by accounts thread = record { thread = thread; number = (accounts thread).last; is_open = (accounts thread).is_open }

-- The hand of a row on which the session is open is that of one of the row's threads, the only one on which the session
-- is open, and knows what was taken of it.
pub record IsHandBy (home : ℕ → ℕ) (opened : List ℕ) (accounts : ℕ → Account) (row : ℕ) (hand : HandState) : Type 0 where
  pub is_opened : IsOneOf opened hand.thread
  pub row_is : home hand.thread ≡ row
  pub is_open : (accounts hand.thread).is_open ≡ true
  pub alone : (thread : ℕ) → IsOneOf opened thread → home thread ≡ row → (accounts thread).is_open ≡ true → thread ≡ hand.thread
  pub from : hand.from ≡ (accounts hand.thread).from
  pub taken : hand.taken ≡ (accounts hand.thread).taken
  pub last : hand.last ≡ (accounts hand.thread).last

-- A row has a hand exactly where the session is open on a thread of it.
abbrev pub IsHeld : (ℕ → ℕ) → List ℕ → (ℕ → Account) → ℕ → Option HandState → Type 0
IsHeld home opened accounts row None = (thread : ℕ) → IsOneOf opened thread → home thread ≡ row → (accounts thread).is_open ≡ false
IsHeld home opened accounts row (Some hand) = IsHandBy home opened accounts row hand

-- What a session keeps of the threads on which it was opened: its hands, the threads that the next point names, and
-- its marks.
pub record Keeps (watch : Watch) (opened : List ℕ) (accounts : ℕ → Account) (hands : ℕ → Option HandState) (named : List Named) (marks : List Marks) : Type 0 where
  pub ascending : AreAscending opened
  pub held : (row : ℕ) → IsHeld watch.home opened accounts row (hands row)
  pub named_are : named ≡ map (name_by accounts) (filter (λ t. (accounts t).is_named) opened)
  pub marks_are : marks ≡ map (marks_by accounts) (filter (λ t. not (accounts t).is_open) opened)
  -- a point names each thread on which the session is open
  pub open_named : (thread : ℕ) → (accounts thread).is_open ≡ true → (accounts thread).is_named ≡ true
  pub within : (thread : ℕ) → IsOneOf opened thread → (accounts thread).is_open ≡ false → (accounts thread).taken ≤ (accounts thread).last
  pub counted : (thread : ℕ) → IsOneOf opened thread → (accounts thread).is_open ≡ false → AreCounted watch.events watch.writes watch.config (marks_by accounts thread)

-- ---- what was told of each thread

-- An event of one of these threads, or a point that names only such.
abbrev pub speaks_of : List ℕ → Entry → Bool
speaks_of threads (Event event) = list_any (λ t. t == event.thread) threads
speaks_of threads (Point point) = list_all (λ (named : ℕ × ℕ). list_any (λ t. t == named.0) threads) point.threads

-- What was told is of the writes that the session gets, in their order, no more of each thread than was taken, and of
-- no other thread.
pub record TellsPart (watch : Watch) (opened : List ℕ) (accounts : ℕ → Account) (told : List Entry) : Type 0 where
  pub rising : (thread : ℕ) → IsOneOf opened thread → AreRising 0 (accounts thread).last (events_of thread told)
  pub in_place : (thread : ℕ) → IsOneOf opened thread → AreInPlace (contents_from watch.events watch.config (accounts thread).from (watch.writes thread)) (events_of thread told)
  pub few : (thread : ℕ) → IsOneOf opened thread → length (events_of thread told) ≤ (accounts thread).taken
  pub alone : AllByRecursion (λ entry. speaks_of opened entry ≡ true) told

-- All that was taken of a thread was told: what the entries see of it, and how many numbers they miss up to there.
pub record TellsAll (thread : ℕ) (account : Account) (told : List Entry) : Type 0 where
  pub taken : length (events_of thread told) ≡ account.taken
  pub seen : ℕ
  pub missed : ℕ
  pub within : seen ≤ account.last
  pub all : account.taken + missed ≡ seen
  pub steady : (later : List Sighting) → missing 0 (sightings thread told ++ later) ≡ missed + missing seen later
  -- a thread that points name no more was named last with its last number
  pub named : account.is_named ≡ false → (seen ≡ account.last) × (last_sighting thread told ≡ Some (Known account.last))

-- What was told of the threads on which a session was opened is of their writes, and all that was taken where the
-- session did not fail. (That all was told is said of a thread with numbers that 32 bits count; a thread that closes has
-- no others.)
pub record Traces (watch : Watch) (opened : List ℕ) (Sound : Type 0) (hands : ℕ → Option HandState) (named : List Named) (marks : List Marks) (told : List Entry) : Type 0 where
  pub accounts : ℕ → Account
  pub keeps : Keeps watch opened accounts hands named marks
  pub part : TellsPart watch opened accounts told
  pub all : Sound → (thread : ℕ) → IsOneOf opened thread → (accounts thread).last < 2 ^ 32 → TellsAll thread (accounts thread) told

-- ---- a session and what it told

-- The session was opened on these threads, ascending, and its writer has told these entries of them.
pub record IsTracing {S : Type 0} (side : Sink S) (watch : Watch) (opened : List ℕ) (told : List Entry) (session : Session S) : Type 0 where
  pub config_is : (rest_of session).config ≡ watch.config
  pub telling : IsTelling side.tells_taken side.taken watch.before (definition_at watch.events) watch.info told (writer_of session)
  pub traces : Traces watch opened (fault_of session ≡ None) (hand_on session) (rest_of session).named (rest_of session).marks told

-- ---- the end

-- The fate is that of a fault.
abbrev pub is_fault : Fate → Bool
is_fault (fate.Requested conn) = false
is_fault fate.ProgramEnd = false
is_fault fate.LinkFault = true
is_fault fate.TooLong = true
is_fault fate.OutOfMemory = true

-- The sink took, behind what it had taken before, the one stream of entries that trace the threads, with the section of a
-- rundown before the last point where the configuration asks for one.
pub record TookTraced {S : Type 0} (side : Sink S) (before : List ℕ) (info : TraceInfo) (events : List EventDef) (config : Config) (writes : ℕ → List Write) (marks : List Marks) (sink : S) : Type 0 where
  pub entries : List Entry
  pub stream : TookStream side.tells_taken side.taken before info (with_section config.rundown entries) sink
  pub traced : AreTraced events config writes marks entries

-- The sink took, behind what it had taken before, what begins the stream of what is told first of such entries, which trace
-- a part of what the threads wrote, or all of it.
pub record TookTracedPart {S : Type 0} (side : Sink S) (before : List ℕ) (info : TraceInfo) (events : List EventDef) (config : Config) (writes : ℕ → List Write) (marks : List Marks) (sink : S) : Type 0 where
  pub entries : List Entry
  pub part : ArePart events config writes marks entries
  pub told : List Entry
  pub front : IsFront told (with_section config.rundown entries)
  pub stream : TookPart side.tells_taken side.taken before info told sink
