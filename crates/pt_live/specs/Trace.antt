-- What a run of the sample program comes to (this project's theorem).
use Rattle.std.specs.Prelude.{◌≡◌, ◌≢◌, ℕ, ◌*◌, ◌<◌, ◌≤◌, ◌⊎◌, true, List, [], ◌++◌, length, map, Option, None, Some, IsTrue, Result, IfOk, OnErr}
use Rattle.std.specs.List.{range_with_len, sum_by, AllByRecursion}
use Rattle.ep_defs.specs.declared.session.Config.{Config}
use Rattle.ep_defs.specs.declared.session.Marks.{Marks}
use Rattle.ep_defs.specs.declared.session.TraceInfo.{TraceInfo}
use Rattle.pt_io.specs.declared.sink.Sink.{Ghosts as Sink}
use Rattle.pt_io.specs.Faults.{HasRisen}
use Rattle.nt_write.specs.declared.limits.TheConstants.{FRAMED_EVENTS}
use Rattle.ep_pool.specs.Shared.{SeatState}
use Rattle.ep_stream.specs.declared.session.Fate.{Fate}
use Rattle.ep_stream.specs.declared.session.Fate.TheVariants as fate
use Rattle.ep_live_laws.specs.Streams.{IsPartOf, IsTraceOf}
use Rattle.ep_live_laws.specs.Tracing.{is_fault}
use Rattle.pt_load.specs.Sample.{sample}
use Rattle.pt_load.specs.declared.plan.Plan.{Plan}
pub use Rattle.pt_writers.specs.Whole.{AreWhole, IsSpent, IsWhole, admitted_of}
pub use Rattle.pt_writers.specs.Written.{rows_of, threads_of, writes_of}
use Rattle.pt_live.specs.declared.trace.TraceEnd.{TraceEnd}

-- ---- what the session had of the threads

-- The marks are those of a session that was open on each thread to its end, but where the output took no beginning of a stream:
-- then it was open on none.
abbrev pub HasMarks : Plan → Config → Fate → List Marks → Type 0
HasMarks plan config end marks = AreWhole plan config marks ⊎ ((end ≡ fate.LinkFault) × (marks ≡ []))

-- How many events the session took of all threads.
abbrev pub taken_of : List Marks → ℕ
taken_of marks = sum_by (λ mark. mark.taken) marks

-- How many of its writes a session gets that is open on the thread from its first write on.
abbrev pub admitted_count : Plan → Config → ℕ → ℕ
admitted_count plan config thread = length (admitted_of plan config thread)

-- More events were taken than have ids for their stacks; and no more were taken than the session gets of the threads'
-- writes, nor than these are.
pub record IsLong (plan : Plan) (config : Config) (marks : List Marks) : Type 0 where
  pub taken : FRAMED_EVENTS < taken_of marks
  pub admitted : taken_of marks ≤ sum_by (admitted_count plan config) (threads_of plan)
  pub written : sum_by (admitted_count plan config) (threads_of plan) ≤ plan.threads * plan.writes

-- ---- why it had no more

-- There is such a seat, but where the session was open on no thread.
abbrev pub HasSpent : Config → List Marks → Option SeatState → Type 0
HasSpent config marks None = marks ≡ []
HasSpent config marks (Some seat) = IsSpent config marks seat

-- ---- a session that was not open to the end

-- The session was open on some of the threads, the first ones, and none of them had made a write.
pub record AreUnwritten (plan : Plan) (marks : List Marks) : Type 0 where
  pub count : ℕ
  pub few : count ≤ plan.threads
  pub threads : map (λ mark. mark.thread) marks ≡ range_with_len 1 count
  pub whole : AllByRecursion (IsWhole 0) marks

-- ---- what the output took

-- Behind what it had, it took the one stream of entries that tell all that the session got of the threads' writes, less
-- what was refused, with the section of a rundown before the last point where the configuration asks for one.
pub record TookTrace (info : TraceInfo) (plan : Plan) (config : Config) (marks : List Marks) (old new : List ℕ) : Type 0 where
  pub stream : List ℕ
  pub trace : IsTraceOf sample config (writes_of plan) info marks stream
  pub took : new ≡ old ++ stream

-- Behind what it had, it took what begins the one stream of what is told first of entries that tell a part of that.
pub record TookPart (info : TraceInfo) (plan : Plan) (config : Config) (marks : List Marks) (old new : List ℕ) : Type 0 where
  pub part : List ℕ
  pub trace : IsPartOf sample config (writes_of plan) info marks part
  pub took : new ≡ old ++ part

-- It took a part of a stream, if anything.
abbrev pub TookSome : TraceInfo → Plan → Config → List Marks → List ℕ → List ℕ → Type 0
TookSome info plan config marks old new = (new ≡ old) ⊎ TookPart info plan config marks old new

-- It took a stream or a part of one, if anything, of a session that ended before a thread made a write.
pub record TookUnwritten (info : TraceInfo) (plan : Plan) (config : Config) (old new : List ℕ) : Type 0 where
  pub marks : List Marks
  pub unwritten : AreUnwritten plan marks
  pub took : TookSome info plan config marks old new ⊎ TookTrace info plan config marks old new

-- ---- the run

-- What a run with one session over it has come to, whose output was the first and is the second.
pub record Traced {O : Type 0} (sink : Sink O) (info : TraceInfo) (plan : Plan) (config : Config) (old new : O) (end : TraceEnd) : Type 0 where
  -- each thread has made all its writes
  pub rows : end.rows.items ≡ rows_of plan
  pub marks : HasMarks plan config end.fate end.marks
  -- the session's pool had the budget's chunks, all of them back, and was found dry once for each event that was refused
  pub spent : HasSpent config end.marks end.seat
  -- where nothing failed the output took the whole stream, and else a part of one
  pub whole : end.fate ≡ fate.ProgramEnd → IsTrue (sink.tells_taken old) → TookTrace info plan config end.marks (sink.taken old) (sink.taken new)
  pub part : is_fault end.fate ≡ true → IsTrue (sink.tells_taken old) → TookSome info plan config end.marks (sink.taken old) (sink.taken new)
  -- nobody asks for the end
  pub not_asked : (conn : ℕ) → end.fate ≢ fate.Requested conn
  -- a fault comes only from the output, in this run, and without one no write of it has failed
  pub link_fault : end.fate ≡ fate.LinkFault → HasRisen (sink.write_faults old) (sink.write_faults new)
  pub wrote : end.fate ≢ fate.LinkFault → sink.write_faults new ≡ sink.write_faults old
  pub too_long : end.fate ≡ fate.TooLong → IsLong plan config end.marks

-- What a run answers. Where it found no memory it ended before a thread made a write.
pub record Traces {O E : Type 0} (sink : Sink O) (info : TraceInfo) (plan : Plan) (config : Config) (old new : O) (result : Result TraceEnd E) : Type 0 where
  pub ended : IfOk result (Traced sink info plan config old new)
  pub memory : OnErr result (IsTrue (sink.tells_taken old) → TookUnwritten info plan config (sink.taken old) (sink.taken new))
