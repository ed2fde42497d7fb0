-- What a run of the sample program with its diagnostic server comes to (this project's theorem).
use Rattle.std.specs.Prelude.{◌≡◌, ℕ, ◌+◌, ◌<◌, ◌≤◌, ◌⊎◌, Bool, true, false, ◌&&◌, ◌||◌, ◌==◌, nat_lt, List, [], ◌∷◌, ◌++◌, length, map, IsTrue, count_by}
use Rattle.std.specs.List.{list_all, list_any, range_with_len, sum_by, AllByRecursion}
use Rattle.ep_defs.specs.declared.session.Config.{Config}
use Rattle.ep_defs.specs.declared.session.Marks.{Marks}
use Rattle.pt_io.specs.declared.dock.Dock.{Ghosts as Dock}
use Rattle.pt_io.specs.declared.sink.Sink.{Ghosts as Sink}
use Rattle.pt_io.specs.Faults.{HasRisen}
use Rattle.pt_io.specs.Sides.{ReadSide, WriteSide}
use Rattle.nt_write.specs.declared.limits.TheConstants.{FRAMED_EVENTS}
use Rattle.ipc_body.specs.declared.request.Request.TheVariants as request
use Rattle.ep_guarded.specs.Tied.{AreCounted, thread_of}
use Rattle.ep_pool.specs.Shared.{SeatState}
use Rattle.ep_stream.specs.declared.session.Fate.TheVariants as fate
use Rattle.ep_live_laws.specs.Streams.{IsPartOf, IsTraceOf}
use Rattle.ep_live_laws.specs.Tracing.{AreAscending, IsOneOf, is_fault}
use Rattle.ep_journal.specs.declared.decision.Decision.{Decision}
use Rattle.ep_journal.specs.declared.session.Entry.{Entry}
use Rattle.ep_journal.specs.declared.session.Stage.TheVariants as stage
use Rattle.ep_journal.specs.declared.limits.TheConstants.{CONNECTIONS}
use Rattle.ep_journal.specs.Kept.{is_session}
use Rattle.ep_journal.specs.Told.{AreTold}
use Rattle.pt_load.specs.Sample.{sample}
use Rattle.pt_server.specs.Connection.{HasAsked}
use Rattle.pt_server.specs.Told.{AreTold as AreEnded}
pub use Rattle.pt_writers.specs.Whole.{refused_of}
use Rattle.pt_roles.specs.Fates.{fate_as}
use Rattle.pt_roles.specs.World.{WorldState, before_of, rows_of, writes_of}
use Rattle.pt_roles.specs.declared.live_end.LiveEnd.{LiveEnd}
use Rattle.pt_roles.specs.declared.live_end.LiveSession.{LiveSession}

-- ---- the marks of a session

-- The thread is one that a row of the run serves in one of its lives.
pub record IsThread (world : WorldState) (thread : ℕ) : Type 0 where
  pub number : ℕ
  pub within : number < world.plan.threads
  pub life : ℕ
  pub lives : life < world.options.lives
  pub is : thread ≡ thread_of world.plan.threads number life

-- The threads of the marks.
abbrev pub threads_in : List Marks → List ℕ
threads_in marks = map (λ mark. mark.thread) marks

-- The marks are of threads of the run, ascending, and what was taken and what was refused of each thread's writes between
-- its opening and its closing is all that the configuration admits of them.
pub record AreMarksOf (world : WorldState) (config : Config) (marks : List Marks) : Type 0 where
  pub ascending : AreAscending (threads_in marks)
  pub threads : AllByRecursion (λ mark. IsThread world mark.thread) marks
  pub counted : AllByRecursion (AreCounted sample (writes_of world.plan) config) marks

-- One of the marks is of a thread of the row with this number.
pub record HasRow (world : WorldState) (marks : List Marks) (number : ℕ) : Type 0 where
  pub life : ℕ
  pub lives : life < world.options.lives
  pub has : IsOneOf (threads_in marks) (thread_of world.plan.threads number life)

-- The session was opened on a thread of each row.
abbrev pub HasEachRow : WorldState → List Marks → Type 0
HasEachRow world marks = (number : ℕ) → number < world.plan.threads → HasRow world marks number

-- The session was open on the first thread of each row, and on these from their first writes on.
abbrev pub is_early : WorldState → List Marks → Bool
is_early world marks =
    list_all (λ number. list_any (λ t. t == number + 1) (threads_in marks)) (range_with_len 0 world.plan.threads)
    && list_all (λ mark. nat_lt world.plan.threads mark.thread || (mark.from == 0)) marks

-- How many events the session took of all threads.
abbrev pub taken_of : List Marks → ℕ
taken_of marks = sum_by (λ mark. mark.taken) marks

-- ---- why a session had no more

-- A seat that has all shares of a session's pool, from which each chunk was taken in the end, all those that were out being
-- back. The pool had the chunks of the session's budget, and was found dry once for each event that was refused.
pub record IsSpent (config : Config) (marks : List Marks) (seat : SeatState) : Type 0 where
  pub alone : seat.share ≡ seat.seats
  pub drained : seat.taken ≡ seat.given + seat.total
  pub chunks : seat.total ≡ config.chunks
  pub dry : seat.dry ≡ refused_of marks

-- ---- a session

-- Behind that the link took these bytes.
abbrev pub TookBehind : {L : Type 0} → Sink L → List ℕ → L → List ℕ → Type 0
TookBehind sink before link bytes = sink.taken link ≡ before ++ bytes

-- It took the one stream of entries that tell all that the session got of the threads' writes, less what was refused, with
-- the section of a rundown before the last point where the session asked for one.
pub record TookTrace {L : Type 0} (sink : Sink L) (world : WorldState) (session : LiveSession L) : Type 0 where
  pub stream : List ℕ
  pub trace : IsTraceOf sample session.config (writes_of world.plan) world.facts.info session.marks stream
  pub took : TookBehind sink (before_of world session.id) session.link stream

-- It took what begins the one stream of what is told first of entries that tell a part of that.
pub record TookPart {L : Type 0} (sink : Sink L) (world : WorldState) (session : LiveSession L) : Type 0 where
  pub part : List ℕ
  pub trace : IsPartOf sample session.config (writes_of world.plan) world.facts.info session.marks part
  pub took : TookBehind sink (before_of world session.id) session.link part

-- What a session of a run comes to. Nothing of it speaks of another session.
pub record IsEnd {L : Type 0} (gave : L → ReadSide) (sink : Sink L) (world : WorldState) (session : LiveSession L) : Type 0 where
  -- its link asked for it, with this configuration, and gave no byte more
  pub asked : HasAsked (gave session.link) (request.Collect session.config)
  pub marks : AreMarksOf world session.config session.marks
  -- each event that was refused found its own pool dry, which had as many chunks as it asked for
  pub spent : IsSpent session.config session.marks session.seat
  -- where it did not fail it was open on each row, and its link took the whole stream; else a part of one
  pub every : is_fault session.fate ≡ false → HasEachRow world session.marks
  pub whole : is_fault session.fate ≡ false → IsTrue (sink.tells_taken session.link) → TookTrace sink world session
  pub part : is_fault session.fate ≡ true → IsTrue (sink.tells_taken session.link) → TookPart sink world session
  -- it ends with the program only once each of its threads has made all its writes
  pub ended : session.fate ≡ fate.ProgramEnd → AllByRecursion (λ mark. mark.to ≡ world.plan.writes) session.marks
  -- a fault is its own link's, or comes of more events than have ids for their stacks
  pub link_fault : session.fate ≡ fate.LinkFault → 0 < sink.write_faults session.link
  pub too_long : session.fate ≡ fate.TooLong → FRAMED_EVENTS < taken_of session.marks

-- ---- all sessions

-- A session is the one that the table knew under this id: who asked for it, how it ended, and since when it could be stopped
-- no more.
pub record IsKnownAs {L : Type 0} (id : ℕ) (entry : Entry) (session : LiveSession L) : Type 0 where
  pub id_is : session.id ≡ id
  pub conn_is : session.conn ≡ entry.conn
  pub fate_is : entry.stage ≡ stage.Over (fate_as session.fate)
  pub gone_is : entry.gone ≡ session.gone

-- The first entry is of no session, or of the first session, and the others are of the others.
abbrev pub KnowsFirst : {L : Type 0} → (List (LiveSession L) → Type 0) → ℕ → Entry → Bool → List (LiveSession L) → Type 0
KnowsFirst Others id entry false sessions = Others sessions
KnowsFirst Others id entry true [] = ⊥
KnowsFirst Others id entry true (session ∷ sessions) = IsKnownAs id entry session × Others sessions

-- The sessions are those that the table knew, by id from this one on, without those whose start failed.
abbrev pub AreKnown : {L : Type 0} → ℕ → List Entry → List (LiveSession L) → Type 0
AreKnown id [] [] = Unit {0}
AreKnown id [] (session ∷ sessions) = ⊥
AreKnown id (entry ∷ entries) sessions = KnowsFirst (AreKnown (id + 1) entries) id entry (is_session entry) sessions

-- ---- the start

-- So many sessions as were waited for were open on each row before any write; or nobody came in any more, and each session
-- that did not fail was.
abbrev pub HasWaited : {L : Type 0} → WorldState → Type 0 → List (LiveSession L) → Type 0
HasWaited world IsOver sessions =
    (world.options.wait ≤ count_by (λ session. is_early world session.marks) sessions)
    ⊎ (IsOver × AllByRecursion (λ session. is_fault session.fate ≡ false → is_early world session.marks ≡ true) sessions)

-- ---- the run

-- What a run comes to whose dock was the first and is the second.
pub record IsRan {D L : Type 0} (dock : Dock D L) (sink : Sink L) (gave : L → ReadSide) (took : L → WriteSide) (world : WorldState) (old new : D) (end : LiveEnd L) : Type 0 where
  -- what was decided, by connection, and what became of the sessions, by id, the failed starts among them: they bear one
  -- another out
  pub decisions : List Decision
  pub entries : List Entry
  pub told : AreTold decisions entries true
  -- each connection that came in was decided
  pub count : dock.arrivals new ≡ dock.arrivals old + length decisions
  pub few : length decisions ≤ CONNECTIONS
  -- and each has ended as it may, or became a session
  pub conns : AreEnded gave took world.facts world.greeting 1 decisions end.conns.items
  pub sessions : AreKnown 1 entries end.sessions.items
  pub each : AllByRecursion (IsEnd gave sink world) end.sessions.items
  -- each row's last thread has made all its writes
  pub rows : end.rows.items ≡ rows_of world.plan world.options.lives
  pub waited : HasWaited world (IsTrue (dock.is_closed new) ⊎ HasRisen (dock.dock_faults old) (dock.dock_faults new) ⊎ (length decisions ≡ CONNECTIONS)) end.sessions.items
  pub dock_failed : end.dock_failed ≡ true → HasRisen (dock.dock_faults old) (dock.dock_faults new)
  pub dock_stays : end.dock_failed ≡ false → dock.dock_faults new ≡ dock.dock_faults old
