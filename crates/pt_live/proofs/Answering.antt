-- What a run answers, by what its session was at its end.
use Rattle.std.proofs.Common.{◌≡◌, ◌≢◌, ◌∙◌, ℕ, zero, suc, ◌+◌, ◌<◌, ◌≤◌, ◌++◌, ◌⊎◌, inl, inr, true, false, List, [], ◌∷◌, None, length, map, refl, sym, ap, subst, arith}
use Rattle.std.specs.Prelude.{Bool, IsTrue, Result, Ok, Err, IfOk, OnErr}
use Rattle.std.specs.List.{range_with_len}
use Rattle.std.proofs.lemmas.List.{append-nil}
use Rattle.ep_defs.specs.declared.limits.TheConstants.{WRITES}
use Rattle.ep_defs.specs.declared.event.EventDef.{EventDef}
use Rattle.ep_defs.specs.declared.session.Config.{Config}
use Rattle.ep_defs.specs.declared.session.Marks.{Marks}
use Rattle.ep_defs.specs.declared.session.TraceInfo.{TraceInfo}
use Rattle.ep_defs.specs.declared.session.Write.{Write}
use Rattle.ep_rundown.specs.Rundown.{lacks_rundown}
use Rattle.nt_write.specs.declared.fault.Fault.{Fault}
use Rattle.nt_write.specs.declared.fault.Fault.TheVariants.{WriteFault, TooLong, OutOfMemory}
use Rattle.pt_io.specs.declared.sink.Sink.{Ghosts as Sink}
use Rattle.pt_io.specs.Faults.{HasRisen}
use Rattle.ep_stream.specs.Session.{TookStart}
use Rattle.ep_stream.specs.declared.session.Fate.{Fate}
use Rattle.ep_stream.specs.declared.session.Fate.TheVariants as fate
use Rattle.ep_live_laws.specs.Streams.{PartsAreFound, TracesAreFound}
use Rattle.ep_live_laws.specs.Traced.{AreOfThreads}
use Rattle.ep_live_laws.specs.Tracing.{is_fault, TookTraced, TookTracedPart}
use Rattle.pt_load.specs.Sample.{sample}
use Rattle.pt_load.specs.declared.plan.Plan.{Plan}
use Rattle.pt_live.specs.declared.trace.TraceEnd.{TraceEnd}
use Rattle.pt_writers.specs.Whole.{AreWhole}
use Rattle.pt_writers.specs.Written.{rows_of, writes_of}
use Rattle.pt_writers.proofs.Load.{count-writes}
use Rattle.pt_live.specs.Trace.{AreUnwritten, HasSpent, TookPart, TookSome, TookTrace, TookUnwritten, Traced, Traces}
use Rattle.pt_live.specs.state.Ended.{HasEndedAt}
use Rattle.pt_live.specs.state.Run.{IsLentTo, RunState}
use Rattle.pt_live.proofs.Long.{is-long}

-- The stream of entries that trace the threads is found, and so is a part of it. The sample program does not define the
-- rundown's own event.
pub record Laws (plan : Plan) (config : Config) : Type 0 where
  pub traces : TracesAreFound sample config (writes_of plan)
  pub parts : PartsAreFound sample config (writes_of plan)
  pub lacks : IsTrue (lacks_rundown sample)

-- The marks of threads from one above 0 on are of threads that write.
of-threads : (first n : ℕ) (marks : List Marks) → 0 < first → map (λ mark. mark.thread) marks ≡ range_with_len first n → AreOfThreads marks
of-threads first n [] some are = tt
of-threads first zero (mark ∷ marks) some are = cc
of-threads first (suc n) (mark ∷ marks) some are =
    let here : mark.thread ≡ first = cc in
    let later : map (λ (m : Marks). m.thread) marks ≡ range_with_len (first + 1) n = cc in
    (omega (arith, here, some), of-threads (first + 1) n marks (omega arith) later)

-- ---- a session that was begun

-- The program is the sample program.
pub of-sample : {S : Type 0} (side : Sink S) (run : RunState) (plan : Plan) (events : List EventDef) (writes : ℕ → List Write) (opened to : ℕ) (handed : Fate) (marks : List Marks) (end : Fate) (sink : S)
    → events ≡ sample → writes ≡ writes_of plan → HasEndedAt side run plan events writes opened to handed marks end sink → HasEndedAt side run plan sample (writes_of plan) opened to handed marks end sink
of-sample side run plan events writes opened to handed marks end sink events_are writes_are e =
    subst (λ (w : ℕ → List Write). HasEndedAt side run plan sample w opened to handed marks end sink) writes_are
    (subst (λ (es : List EventDef). HasEndedAt side run plan es writes opened to handed marks end sink) events_are e)

module _ {O L : Type 0} (side : Sink L) (output : Sink O) (out : L → O) (run : RunState) (plan : Plan) (old : O) (loan : ℕ) (lent : IsLentTo output run loan old)
    (tells_is : (l : L) → side.tells_taken l ≡ run.tells) (taken_is : (l : L) → side.taken l ≡ output.taken (out l)) (faults_are : (l : L) → side.write_faults l ≡ output.write_faults (out l)) where
  -- What was lent tells what it takes, where the output does.
  tells-so : (l : L) → IsTrue (output.tells_taken old) → IsTrue (side.tells_taken l)
  tells-so l told = subst IsTrue (lent.tells_is ∙ sym (tells_is l)) told

  -- What the output had is what the stream stands behind.
  stands-behind : (part : List ℕ) (l : L) → side.taken l ≡ run.before ++ part → output.taken (out l) ≡ output.taken old ++ part
  stands-behind part l took = sym (taken_is l) ∙ took ∙ ap (λ (bytes : List ℕ). bytes ++ part) (sym lent.before_is)

  pub took-whole : (laws : Laws plan run.config) (marks : List Marks) (l : L) → AreOfThreads marks
      → TookTraced side run.before run.info sample run.config (writes_of plan) marks l
      → IsTrue (output.tells_taken old) → TookTrace run.info plan run.config marks (output.taken old) (output.taken (out l))
  took-whole laws marks l threads t told =
      let stream = t.stream (tells-so l told) in
      record {
        stream = stream.0;
        trace = laws.traces run.info marks t.entries stream.0 laws.lacks threads stream.1 t.traced;
        took = stands-behind stream.0 l stream.2;
      }

  pub took-part : (laws : Laws plan run.config) (marks : List Marks) (l : L)
      → TookTracedPart side run.before run.info sample run.config (writes_of plan) marks l
      → IsTrue (output.tells_taken old) → TookPart run.info plan run.config marks (output.taken old) (output.taken (out l))
  took-part laws marks l t told =
      let stream = t.stream (tells-so l told) in
      record {
        part = stream.1;
        trace = laws.parts run.info marks t.entries t.told stream.1 stream.0 t.front stream.2 stream.3 t.part;
        took = stands-behind stream.1 l stream.4;
      }

  module _ (laws : Laws plan run.config) where
    -- It was open on all threads.
    pub traces-end : (end : TraceEnd) (opened : ℕ) (l : L) → plan.writes ≤ WRITES → end.rows.items ≡ rows_of plan → opened ≡ plan.threads
        → HasEndedAt side run plan sample (writes_of plan) opened plan.writes fate.ProgramEnd end.marks end.fate l → HasSpent run.config end.marks end.seat → Traced output run.info plan run.config old (out l) end
    traces-end end opened l most rows all e spent =
        record {
          rows = rows;
          marks = inl whole;
          spent = spent;
          whole = λ is. took-whole laws end.marks l (of-threads 1 opened end.marks (omega arith) e.threads) (e.outcome.whole (ap is_fault is) few);
          part = λ is told. inr (took-part laws end.marks l e.outcome.part told);
          not_asked = e.well.not_asked;
          link_fault = λ is.
              subst (λ (n : ℕ). HasRisen n (output.write_faults (out l))) (sym lent.faults_are)
              (subst (HasRisen run.faults) (faults_are l) (e.well.link_fault is));
          wrote = λ not. sym (faults_are l) ∙ e.well.wrote not ∙ sym lent.faults_are;
          too_long = λ is. is-long plan run.config end.marks whole (e.outcome.too_long not-long is);
        }
      where
        few : (thread : ℕ) → length (writes_of plan thread) ≤ WRITES
        few thread = let long = count-writes plan thread in omega (arith, long, most)

        not-long : fate.ProgramEnd ≢ fate.TooLong
        not-long is = cc

        whole : AreWhole plan run.config end.marks
        whole =
            record {
              threads = e.threads ∙ ap (λ (n : ℕ). range_with_len 1 n) all;
              whole = e.whole;
              counted = e.outcome.marks_are.counted;
            }

    -- It was closed before a thread made a write.
    pub unwritten-end : (opened : ℕ) (marks : List Marks) (end : Fate) (l : L) → plan.writes ≤ WRITES → opened ≤ plan.threads → HasEndedAt side run plan sample (writes_of plan) opened 0 fate.OutOfMemory marks end l
        → IsTrue (output.tells_taken old) → TookUnwritten run.info plan run.config (output.taken old) (output.taken (out l))
    unwritten-end opened marks end l most few e told =
        record {
          marks = marks;
          unwritten = record { count = opened; few = few; threads = e.threads; whole = e.whole };
          took = by (is_fault end) refl;
        }
      where
        few_writes : (thread : ℕ) → length (writes_of plan thread) ≤ WRITES
        few_writes thread = let long = count-writes plan thread in omega (arith, long, most)

        by : (b : Bool) → is_fault end ≡ b
            → TookSome run.info plan run.config marks (output.taken old) (output.taken (out l)) ⊎ TookTrace run.info plan run.config marks (output.taken old) (output.taken (out l))
        by true is = inl (inr (took-part laws marks l e.outcome.part told))
        by false is = inr (took-whole laws marks l (of-threads 1 opened marks (omega arith) e.threads) (e.outcome.whole is few_writes) told)

-- ---- a session that was not begun

-- The session was open on no thread.
no-marks : (plan : Plan) → AreUnwritten plan []
no-marks plan = record { count = 0; few = omega arith; threads = refl; whole = record {} }

-- The output took nothing.
pub unwritten-none : (info : TraceInfo) (plan : Plan) (config : Config) (bytes : List ℕ) → TookUnwritten info plan config bytes bytes
unwritten-none info plan config bytes = record { marks = []; unwritten = no-marks plan; took = inl (inl refl) }

front-empty : (bytes rest : List ℕ) → bytes ++ rest ≡ [] → bytes ≡ []
front-empty [] rest e = refl
front-empty (b ∷ bytes) rest e = cc

module _ {O : Type 0} (run : RunState) (plan : Plan) (laws : Laws plan run.config) (output : Sink O) (loan : ℕ) (old new : O) (lent : IsLentTo output run loan old) where
  -- The output took no stream, or a part of what begins one.
  pub start-some : TookStart (λ _. run.tells) output.taken [] run.info old new → IsTrue (output.tells_taken old) → TookSome run.info plan run.config [] (output.taken old) (output.taken new)
  start-some (inl part) told =
      let (bytes, (rest, begins), took) = part (subst IsTrue lent.tells_is told) in
      inl (took ∙ ap (λ (bs : List ℕ). output.taken old ++ bs) (front-empty bytes rest begins) ∙ append-nil (output.taken old))
  start-some (inr (before, begins, part)) told =
      let tells_so = subst IsTrue lent.tells_is told in
      let stream = part tells_so in
      inr
      (record {
        part = stream.1;
        trace = laws.parts run.info [] [] [] stream.1 stream.0 (_, refl) stream.2 stream.3 (record { rising = record {}; in_place = record {}; alone = record {} });
        took = stream.4 ∙ ap (λ (bytes : List ℕ). bytes ++ stream.1) (begins tells_so ∙ append-nil (output.taken old));
      })

  pub unwritten-start : TookStart (λ _. run.tells) output.taken [] run.info old new → IsTrue (output.tells_taken old) → TookUnwritten run.info plan run.config (output.taken old) (output.taken new)
  unwritten-start start told = record { marks = []; unwritten = no-marks plan; took = inl (start-some start told) }

  pub traces-none : (end : TraceEnd) → end.rows.items ≡ rows_of plan → end.marks ≡ [] → end.seat ≡ None → end.fate ≡ fate.LinkFault → HasRisen (output.write_faults old) (output.write_faults new)
      → TookStart (λ _. run.tells) output.taken [] run.info old new → Traced output run.info plan run.config old new end
  traces-none end rows none no_seat link risen start =
      record {
        rows = rows;
        marks = inr (link, none);
        spent = subst (HasSpent run.config end.marks) (sym no_seat) none;
        whole = λ is. absurd (not-ended (sym link ∙ is));
        part = λ is told. subst (λ (ms : List Marks). TookSome run.info plan run.config ms (output.taken old) (output.taken new)) (sym none) (start-some start told);
        not_asked = λ conn is. not-asked conn (sym link ∙ is);
        link_fault = λ is. risen;
        wrote = λ not. absurd (not link);
        too_long = λ is. absurd (not-long (sym link ∙ is));
      }
    where
      not-ended : fate.LinkFault ≡ fate.ProgramEnd → ⊥
      not-ended e = cc

      not-long : fate.LinkFault ≡ fate.TooLong → ⊥
      not-long e = cc

      not-asked : (conn : ℕ) → fate.LinkFault ≡ fate.Requested conn → ⊥
      not-asked conn e = cc

-- A session that could not be begun for another cause than memory had its write refused.
pub other-fault : (fault : Fault) → fault ≢ TooLong → fault ≢ OutOfMemory → fault ≡ WriteFault
other-fault WriteFault long memory = refl
other-fault TooLong long memory = absurd (long refl)
other-fault OutOfMemory long memory = absurd (memory refl)

-- ---- answers

-- A run that found no memory.
pub traces-memory : {O E : Type 0} (output : Sink O) (info : TraceInfo) (plan : Plan) (config : Config) (old new : O) (error : E)
    → (IsTrue (output.tells_taken old) → TookUnwritten info plan config (output.taken old) (output.taken new)) → Traces output info plan config old new (Err error)
traces-memory output info plan config old new error unwritten = record { ended = tt; memory = unwritten }

-- What was said of the session says what is answered.
pub traces-by : {O E : Type 0} (output : Sink O) (info : TraceInfo) (plan : Plan) (config : Config) (old new : O) (result : Result TraceEnd E) (Rows Ends Spent : TraceEnd → Type 0) (Begins : Type 0)
    → ((end : TraceEnd) → Rows end → Ends end → Spent end → Traced output info plan config old new end)
    → (Begins → IsTrue (output.tells_taken old) → TookUnwritten info plan config (output.taken old) (output.taken new))
    → IfOk result Rows → IfOk result Ends → IfOk result Spent → OnErr result Begins → Traces output info plan config old new result
traces-by output info plan config old new (Ok end) Rows Ends Spent Begins traced unwritten rows ends spent begins = record { ended = traced end rows ends spent; memory = tt }
traces-by output info plan config old new (Err error) Rows Ends Spent Begins traced unwritten rows ends spent begins = record { ended = tt; memory = unwritten begins }
