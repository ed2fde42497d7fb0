-- What a recorder stands for, call by call.
use Rattle.std.proofs.Common.{◌≡◌, ℕ, zero, suc, ◌+◌, Bool, true, false, List, [], ◌∷◌, ◌++◌, Option, Some, None, Result, Ok, Err, inl, inr, refl, ap, sym, ◌∙◌, subst}
use Rattle.std.proofs.lemmas.List.{append-nil}
use Rattle.std.proofs.lemmas.List.Sums.{fold-append}
use Rattle.std.specs.Option.{option_or}
use Rattle.std.specs.Prelude.{◌⊎◌, is_some, is_ok, not, OnOk, OnErr, ◌==◌, if◌then◌else◌}
use Rattle.std.specs.List.Sorted.{IsStrictlySortedBy}
use Rattle.std.specs.Map.{keys_of}
use Rattle.std.specs.Ordering.{nat_cmp}
use Rattle.ep_defs.specs.declared.event.EventDef.{EventDef}
use Rattle.ep_defs.specs.declared.session.TraceInfo.{TraceInfo}
use Rattle.ep_defs.specs.Definitions.{AreDistinct, definition_at}
use Rattle.ep_defs.specs.Entry.{EventEntry, PointEntry, Entry, Event, Point}
use Rattle.ep_defs.specs.Event.{is_same_event}
use Rattle.pt_io.specs.Sides.{ReadSide}
use Rattle.pt_io.specs.Taken.{IsPrefix}
use Rattle.nt_write.specs.declared.fault.Fault.{Fault}
use Rattle.nt_write.specs.declared.writer.TraceWriter.{TraceWriter}
use Rattle.nt_write.specs.Canonical.{IsCanonical}
use Rattle.nt_write.specs.Layout.{with_member}
use Rattle.nt_write.specs.Value.{framed_with}
use Rattle.nt_write.specs.Writable.{framed_after}
use Rattle.nt_write.specs.Writer.{IsWriting, TookPart, TookStream, fault_of, sink_of}
use Rattle.tp_c.specs.declared.recorder.Stage.{Stage}
use Rattle.tp_c.specs.declared.recorder.Stage.TheVariants.{Open, Over}
use Rattle.tp_c.specs.declared.recorder.Recorder.{Recorder}
use Rattle.tp_c.specs.declared.refusal.Refusal.{Refusal}
use Rattle.tp_c.specs.declared.refusal.Refusal.TheVariants.{BadNames, NoDefinition, BadFrames, LongPayload, TooManyStacks, Ended, OutOfMemory, Cut}
use Rattle.tp_c.specs.declared.shapes.EventHead.{EventHead}
use Rattle.tp_c.specs.Counting.{events_of, told_of, count_in, IsRoll}
use Rattle.tp_c.specs.Outgoing.{Outgoing, no_bytes, all_of, given_by}
use Rattle.tp_c.specs.Recording.{HasAll, IsOpen, IsComplete, IsBegun, StandsFor, IsRecording, IsCut, HasTaken, HasCut, bytes_of, outgoing_of, threads_of, is_over_stage, is_over, is_cut_stage, stage_refused, call_refused, event_of}
use Rattle.tp_c.proofs.Definitions.{has-fewer}
use Rattle.tp_c.proofs.Counts.{no-roll, event-roll, point-roll}

-- All that an outlet took, as its trait says it.
abbrev pub tells : Outgoing → Bool
tells outgoing = true

-- What was pulled stays where what was given does.
pub same-pulled : (old new : Outgoing) → given_by new ≡ given_by old → new.pulled ≡ old.pulled
same-pulled old new e = ap (λ (side : ReadSide). side.given) e

-- ---- the start

-- No definition has a number among none.
none-distinct : AreDistinct (definition_at [])
none-distinct zero j def a b = absurd (nothing def a)
  where
    nothing : (def : EventDef) → None ≡ Some def → ⊥
    nothing def h = cc
none-distinct (suc zero) j def a b = absurd (nothing def a)
  where
    nothing : (def : EventDef) → None ≡ Some def → ⊥
    nothing def h = cc
none-distinct (suc (suc i)) j def a b = absurd (nothing def a)
  where
    nothing : (def : EventDef) → None ≡ Some def → ⊥
    nothing def h = cc

-- A recorder that has begun stands for no entries.
pub begun : (info : TraceInfo) (sink : Outgoing) (writer : TraceWriter Outgoing) (recorder : Recorder) → sink ≡ no_bytes → ((table : ℕ → Option EventDef) → IsWriting tells all_of (all_of sink) table info [] writer) → given_by (sink_of writer) ≡ given_by sink → recorder.stage ≡ Open writer → recorder.definitions ≡ [] → threads_of recorder ≡ [] → recorder.framed ≡ 0 → IsRecording info [] [] recorder
begun info sink writer recorder empty writing given stage definitions threads framed_is =
    record {
      stands =
          subst (λ (s : Stage). StandsFor info [] recorder.definitions s) (sym stage)
          (λ table distinct has. subst (λ (before : List ℕ). IsWriting tells all_of before table info [] writer) (ap all_of empty) (writing table));
      bytes =
          ap (λ (s : Stage). (bytes_of s).pulled) stage ∙ same-pulled sink (sink_of writer) given ∙ ap (λ (o : Outgoing). o.pulled) empty;
      distinct = subst (λ (ds : List EventDef). AreDistinct (definition_at ds)) (sym definitions) none-distinct;
      roll = subst (λ (ts : List (ℕ × ℕ)). IsRoll [] ts) (sym threads) no-roll;
      framed_are = framed_is;
    }

-- ---- definitions

-- A stage stands for its entries also where one definition more is known.
stands-more : (info : TraceInfo) (entries : List Entry) (definitions : List EventDef) (def : EventDef) (stage : Stage) → StandsFor info entries definitions stage → StandsFor info entries (with_member is_same_event definitions def) stage
stands-more info entries definitions def (Open writer) h = λ table distinct has. h table distinct (has-fewer definitions def table has)
stands-more info entries definitions def (Over outlet true) h = h
stands-more info entries definitions def (Over outlet false) h = h

-- So does a recorder.
pub defined : (info : TraceInfo) (entries : List Entry) (pulled : List ℕ) (def : EventDef) (definitions : List EventDef) (old : Recorder) → IsRecording info entries pulled old → definitions ≡ with_member is_same_event old.definitions def → AreDistinct (definition_at definitions) → IsRecording info entries pulled (record old { definitions = definitions })
defined info entries pulled def definitions old h added distinct =
    record {
      stands =
          subst (λ (ds : List EventDef). StandsFor info entries ds old.stage) (sym added) (stands-more info entries old.definitions def old.stage h.stands);
      bytes = h.bytes;
      distinct = distinct;
      roll = h.roll;
      framed_are = h.framed_are;
    }

-- ---- entries

-- The table of these definitions alone has them.
has-its-own : (definitions : List EventDef) → HasAll definitions (definition_at definitions)
has-its-own definitions number def h = h

-- A stage that is open stands for its entries by its writer.
pub by_writer : (info : TraceInfo) (entries : List Entry) (definitions : List EventDef) (stage : Stage) (writer : TraceWriter Outgoing) → stage ≡ Open writer → StandsFor info entries definitions stage → IsOpen info entries definitions writer
by_writer info entries definitions stage writer e h = subst (λ (s : Stage). StandsFor info entries definitions s) e h

-- A recorder that wrote one event more.
pub taken : (info : TraceInfo) (entries : List Entry) (pulled : List ℕ) (event : EventEntry) (old new : Recorder) (before after : TraceWriter Outgoing) → IsRecording info entries pulled old → old.stage ≡ Open before → new.stage ≡ Open after → new.definitions ≡ old.definitions
    → ((table : ℕ → Option EventDef) → AreDistinct table → HasAll old.definitions table → IsWriting tells all_of [] table info (entries ++ Event event ∷ []) after)
    → given_by (sink_of after) ≡ given_by (sink_of before) → IsStrictlySortedBy nat_cmp (keys_of (threads_of new))
    → ((other : ℕ) → told_of other (threads_of new) ≡ (if event.thread == other then Some (count_in (threads_of old) event.thread + 1) else told_of other (threads_of old)))
    → new.framed ≡ framed_with old.framed event.stack → IsRecording info (entries ++ Event event ∷ []) pulled new
taken info entries pulled event old new before after h was is same written given ascending told framed_is =
    record {
      stands =
          subst (λ (s : Stage). StandsFor info (entries ++ Event event ∷ []) new.definitions s) (sym is)
          (subst (λ (ds : List EventDef). IsOpen info (entries ++ Event event ∷ []) ds after) (sym same) written);
      bytes =
          ap (λ (s : Stage). (bytes_of s).pulled) is ∙ same-pulled (sink_of before) (sink_of after) given
          ∙ sym (ap (λ (s : Stage). (bytes_of s).pulled) was) ∙ h.bytes;
      distinct = subst (λ (ds : List EventDef). AreDistinct (definition_at ds)) (sym same) h.distinct;
      roll = event-roll entries event (threads_of old) (threads_of new) h.roll ascending told;
      framed_are =
          framed_is ∙ ap (λ (n : ℕ). framed_with n event.stack) h.framed_are ∙ sym (fold-append framed_after 0 entries (Event event ∷ []));
    }

-- A recorder that wrote one point more.
pub pointed : (info : TraceInfo) (entries : List Entry) (pulled : List ℕ) (point : PointEntry) (old new : Recorder) (before after : TraceWriter Outgoing) → IsRecording info entries pulled old → old.stage ≡ Open before → new.stage ≡ Open after → new.definitions ≡ old.definitions → new.threads ≡ old.threads → new.framed ≡ 0
    → ((table : ℕ → Option EventDef) → AreDistinct table → HasAll old.definitions table → IsWriting tells all_of [] table info (entries ++ Point point ∷ []) after)
    → given_by (sink_of after) ≡ given_by (sink_of before) → IsRecording info (entries ++ Point point ∷ []) pulled new
pointed info entries pulled point old new before after h was is same threads framed_is written given =
    record {
      stands =
          subst (λ (s : Stage). StandsFor info (entries ++ Point point ∷ []) new.definitions s) (sym is)
          (subst (λ (ds : List EventDef). IsOpen info (entries ++ Point point ∷ []) ds after) (sym same) written);
      bytes =
          ap (λ (s : Stage). (bytes_of s).pulled) is ∙ same-pulled (sink_of before) (sink_of after) given
          ∙ sym (ap (λ (s : Stage). (bytes_of s).pulled) was) ∙ h.bytes;
      distinct = subst (λ (ds : List EventDef). AreDistinct (definition_at ds)) (sym same) h.distinct;
      roll =
          subst (λ (ts : List (ℕ × ℕ)). IsRoll (entries ++ Point point ∷ []) ts) (sym threads) (point-roll entries point (threads_of old) h.roll);
      framed_are = framed_is ∙ sym (fold-append framed_after 0 entries (Point point ∷ []));
    }

-- What a sink took in part begins the stream.
pub part-begins : (info : TraceInfo) (entries : List Entry) (sink : Outgoing) → TookPart tells all_of [] info entries sink → IsBegun info entries sink
part-begins info entries sink took =
    let t = took refl in (t.0, t.2, subst (λ (part : List ℕ). IsPrefix part t.0) (sym t.4) t.3)

-- What a sink took whole is the stream.
pub whole-complete : (info : TraceInfo) (entries : List Entry) (sink : Outgoing) → TookStream tells all_of [] info entries sink → IsComplete info entries sink
whole-complete info entries sink took =
    let t = took refl in subst (λ (bytes : List ℕ). IsCanonical info entries bytes) (sym t.2) t.1

-- A recorder whose writer broke off.
pub broke-off : (info : TraceInfo) (entries others : List Entry) (pulled : List ℕ) (fault : Fault) (old new : Recorder) (before after : TraceWriter Outgoing) → IsRecording info entries pulled old → old.stage ≡ Open before → new.stage ≡ Open after → fault_of after ≡ Some fault
    → TookPart tells all_of [] info others (sink_of after) → given_by (sink_of after) ≡ given_by (sink_of before) → IsCut info others pulled new
broke-off info entries others pulled fault old new before after h was is failed part given =
    record {
      cut = ap is_cut_stage is ∙ ap (λ (o : Option Fault). is_some o) failed;
      begun =
          subst (λ (s : Stage). IsBegun info others (bytes_of s)) (sym is) (part-begins info others (sink_of after) part);
      bytes =
          ap (λ (s : Stage). (bytes_of s).pulled) is ∙ same-pulled (sink_of before) (sink_of after) given
          ∙ sym (ap (λ (s : Stage). (bytes_of s).pulled) was) ∙ h.bytes;
    }

-- What a writer is over these definitions alone.
pub at-its-own : (info : TraceInfo) (entries : List Entry) (definitions : List EventDef) (writer : TraceWriter Outgoing) → AreDistinct (definition_at definitions) → IsOpen info entries definitions writer → IsWriting tells all_of [] (definition_at definitions) info entries writer
at-its-own info entries definitions writer distinct h = h (definition_at definitions) distinct (has-its-own definitions)

-- ---- what refuses no call

-- A stage that stands for entries was not cut.
not-cut : (info : TraceInfo) (entries : List Entry) (definitions : List EventDef) (stage : Stage) → AreDistinct (definition_at definitions) → StandsFor info entries definitions stage → stage_refused stage ≡ Some Cut → ⊥
not-cut info entries definitions (Open writer) distinct h e =
    unlike (subst (λ (fault : Option Fault). (if is_some fault then Some Cut else None) ≡ Some Cut) (at-its-own info entries definitions writer distinct h).sound e)
  where
    unlike : None ≡ Some Cut → ⊥
    unlike h = cc
not-cut info entries definitions (Over outlet true) distinct h e = unlike e
  where
    unlike : Some Ended ≡ Some Cut → ⊥
    unlike h = cc
not-cut info entries definitions (Over outlet false) distinct h e = h

-- So no call of a recorder that stands for entries is refused as cut.
pub never-cut : {A : Type 0} (info : TraceInfo) (entries : List Entry) (pulled : List ℕ) (recorder : Recorder) → IsRecording info entries pulled recorder → call_refused recorder ≡ Some Cut → A
never-cut info entries pulled recorder h e =
    absurd (not-cut info entries recorder.definitions recorder.stage h.distinct h.stands e)

-- Nor an event, whose other reasons are others.
pub head-cut : (call : Option Refusal) (no_definition bad_frames long_payload no_stack : Bool)
    → (if is_some call then call else (if no_definition then Some NoDefinition else (if bad_frames then Some BadFrames else (if long_payload then Some LongPayload else (if no_stack then Some TooManyStacks else None))))) ≡ Some Cut → call ≡ Some Cut
head-cut (Some refusal) no_definition bad_frames long_payload no_stack e = e
head-cut None true bad_frames long_payload no_stack e = cc
head-cut None false true long_payload no_stack e = cc
head-cut None false false true no_stack e = cc
head-cut None false false false true e = cc
head-cut None false false false false e = e

-- ---- the end

-- A stage whose stream is whole stands for its entries.
pub stands-over : (info : TraceInfo) (entries : List Entry) (definitions : List EventDef) (outlet : Outgoing) (is_whole : Bool) → is_whole ≡ true → IsComplete info entries outlet → StandsFor info entries definitions (Over outlet is_whole)
stands-over info entries definitions outlet is_whole e h =
    subst (λ (b : Bool). StandsFor info entries definitions (Over outlet b)) (sym e) h

-- A recorder at its end stands for its entries.
pub ended-whole : (info : TraceInfo) (entries : List Entry) (pulled : List ℕ) (old : Recorder) (stage : Stage) → IsRecording info entries pulled old → StandsFor info entries old.definitions stage → (bytes_of stage).pulled ≡ (outgoing_of old).pulled → IsRecording info entries pulled (record old { stage = stage })
ended-whole info entries pulled old stage h stands same =
    record {
      stands = stands;
      bytes = same ∙ h.bytes;
      distinct = h.distinct;
      roll = h.roll;
      framed_are = h.framed_are;
    }

-- One whose stream broke off.
pub ended-cut : (info : TraceInfo) (entries : List Entry) (pulled : List ℕ) (old : Recorder) (stage : Stage) → (outgoing_of old).pulled ≡ pulled → is_cut_stage stage ≡ true → IsBegun info entries (bytes_of stage) → (bytes_of stage).pulled ≡ (outgoing_of old).pulled → IsCut info entries pulled (record old { stage = stage })
ended-cut info entries pulled old stage was cut begun same =
    record { cut = cut; begun = begun; bytes = same ∙ was }

-- Where no write failed at the end, the stream is whole.
pub over-whole : {A : Type 0} (info : TraceInfo) (entries : List Entry) (definitions : List EventDef) (outlet : Outgoing) (r : Result A Fault) (is_whole : Bool) → is_whole ≡ is_ok r → OnOk r (TookStream tells all_of [] info entries outlet) → is_cut_stage (Over outlet is_whole) ≡ false → StandsFor info entries definitions (Over outlet is_whole)
over-whole info entries definitions outlet (Ok x) is_whole e took cut =
    stands-over info entries definitions outlet is_whole e (whole-complete info entries outlet took)
over-whole info entries definitions outlet (Err fault) is_whole e took cut = absurd (differ is_whole e cut)
  where
    differ : (b : Bool) → b ≡ false → not b ≡ false → ⊥
    differ true e c = cc
    differ false e c = cc

-- Where one failed, it breaks off.
pub over-broken : {A : Type 0} (info : TraceInfo) (entries : List Entry) (outlet : Outgoing) (r : Result A Fault) (is_whole : Bool) → is_whole ≡ is_ok r → OnErr r (TookPart tells all_of [] info entries outlet) → is_cut_stage (Over outlet is_whole) ≡ true → IsBegun info entries outlet
over-broken info entries outlet (Ok x) is_whole e took cut = absurd (differ is_whole e cut)
  where
    differ : (b : Bool) → b ≡ true → not b ≡ true → ⊥
    differ true e c = cc
    differ false e c = cc
over-broken info entries outlet (Err fault) is_whole e took cut = part-begins info entries outlet took

-- ---- what a call answers

-- A definition that was added leaves what the recorder stands for.
pub defined-goes-on : {A : Type 0} (info : TraceInfo) (entries : List Entry) (pulled : List ℕ) (def : EventDef) (definitions : List EventDef) (old : Recorder) (r : Result A Refusal) → OnOk r (definitions ≡ with_member is_same_event old.definitions def) → AreDistinct (definition_at definitions) → IsRecording info entries pulled old → OnOk r (IsRecording info entries pulled (record old { definitions = definitions }))
defined-goes-on info entries pulled def definitions old (Ok x) added distinct h =
    defined info entries pulled def definitions old h added distinct
defined-goes-on info entries pulled def definitions old (Err refusal) added distinct h = tt

-- The refusal of an answer.
abbrev error_in : {A : Type 0} → Refusal → Result A Refusal → Refusal
error_in other (Ok x) = other
error_in other (Err refusal) = refusal

-- An answer is one refusal.
same-error : {A : Type 0} (r : Result A Refusal) (a b : Refusal) → r ≡ Err a → r ≡ Err b → a ≡ b
same-error {A} r a b p q = ap (λ (x : Result A Refusal). error_in a x) (sym p ∙ q)

-- Why a definition was refused, where the stream takes definitions and its fields are named.
pub why-refused : {A : Type 0} (call : Option Refusal) (named : Bool) (unfit : Option Refusal) (r : Result A Refusal) (refusal : Refusal) → call ≡ None → named ≡ true → ((why : Refusal) → unfit ≡ Some why → r ≡ Err why) → ((why : Refusal) → unfit ≡ None → r ≡ Err why → why ≡ OutOfMemory) → r ≡ Err refusal → (refusal ≡ OutOfMemory) ⊎ (option_or call (if not named then Some BadNames else unfit) ≡ Some refusal)
why-refused call named None r refusal taking names refused memory is = inl (memory refusal refl is)
why-refused call named (Some why) r refusal taking names refused memory is =
    inr (ap (λ (o : Option Refusal). option_or o (if not named then Some BadNames else Some why)) taking
    ∙ ap (λ (b : Bool). if not b then Some BadNames else Some why) names ∙ ap (λ (x : Refusal). Some x) (same-error r why refusal (refused why refl) is))

-- The event as the writer has it, with the number that was counted.
abbrev pub event_with : EventDef → List Entry → EventHead → List ℕ → List ℕ → ℕ → EventEntry
event_with def entries head frames payload number = record (event_of def entries head frames payload) { number = number }

-- The number that was counted is the next one of the thread.
counted-number : (info : TraceInfo) (entries : List Entry) (pulled : List ℕ) (thread number : ℕ) (old : Recorder) → IsRecording info entries pulled old → number ≡ count_in (threads_of old) thread + 1 → number ≡ events_of thread entries + 1
counted-number info entries pulled thread number old h e = e ∙ ap (λ (n : ℕ). n + 1) (h.roll.counted thread)

-- A recorder that took an event.
pub has-taken : (info : TraceInfo) (entries : List Entry) (pulled : List ℕ) (def : EventDef) (head : EventHead) (frames payload : List ℕ) (number : ℕ) (old new : Recorder) (before after : TraceWriter Outgoing) → IsRecording info entries pulled old → definition_at old.definitions head.event ≡ Some def → number ≡ count_in (threads_of old) head.thread + 1 → old.stage ≡ Open before → new.stage ≡ Open after → new.definitions ≡ old.definitions
    → ((table : ℕ → Option EventDef) → AreDistinct table → HasAll old.definitions table → IsWriting tells all_of [] table info (entries ++ Event (event_with def entries head frames payload number) ∷ []) after)
    → given_by (sink_of after) ≡ given_by (sink_of before) → IsStrictlySortedBy nat_cmp (keys_of (threads_of new))
    → ((other : ℕ) → told_of other (threads_of new) ≡ (if head.thread == other then Some (count_in (threads_of old) head.thread + 1) else told_of other (threads_of old)))
    → new.framed ≡ framed_with old.framed frames → HasTaken info entries pulled old head frames payload new
has-taken info entries pulled def head frames payload number old new before after h found counted was is same written given ascending told framed_is = (
  def,
  found,
  subst (λ (n : ℕ). IsRecording info (entries ++ Event (event_with def entries head frames payload n) ∷ []) pulled new)
      (counted-number info entries pulled head.thread number old h counted)
      (taken info entries pulled (event_with def entries head frames payload number) old new before after h was is same written given ascending told framed_is),
)

-- A recorder whose stream was cut amid an event.
pub has-cut : (info : TraceInfo) (entries : List Entry) (pulled : List ℕ) (def : EventDef) (head : EventHead) (frames payload : List ℕ) (number : ℕ) (fault : Fault) (old new : Recorder) (before after : TraceWriter Outgoing) → IsRecording info entries pulled old → definition_at old.definitions head.event ≡ Some def → number ≡ count_in (threads_of old) head.thread + 1 → old.stage ≡ Open before → new.stage ≡ Open after → fault_of after ≡ Some fault
    → TookPart tells all_of [] info (entries ++ Event (event_with def entries head frames payload number) ∷ []) (sink_of after) → given_by (sink_of after) ≡ given_by (sink_of before) → HasCut info entries pulled old head frames payload new
has-cut info entries pulled def head frames payload number fault old new before after h found counted was is failed part given = (
  def,
  found,
  subst (λ (n : ℕ). IsCut info (entries ++ Event (event_with def entries head frames payload n) ∷ []) pulled new)
      (counted-number info entries pulled head.thread number old h counted)
      (broke-off info entries (entries ++ Event (event_with def entries head frames payload number) ∷ []) pulled fault old new before after h was is failed part given),
)

-- A stage at its end stands for its entries by all of their stream.
stands-complete : (info : TraceInfo) (entries : List Entry) (definitions : List EventDef) (stage : Stage) → is_over_stage stage ≡ true → StandsFor info entries definitions stage → IsComplete info entries (bytes_of stage)
stands-complete info entries definitions (Open writer) over h = absurd (differ over)
  where
    differ : false ≡ true → ⊥
    differ e = cc
stands-complete info entries definitions (Over outlet true) over h = h
stands-complete info entries definitions (Over outlet false) over h = absurd h

-- Where nothing is left at the end, what was pulled is the stream.
pub pulled-whole : (info : TraceInfo) (entries : List Entry) (pulled : List ℕ) (recorder : Recorder) → IsRecording info entries pulled recorder → is_over recorder ≡ true → (outgoing_of recorder).left ≡ [] → IsCanonical info entries pulled
pulled-whole info entries pulled recorder h over left =
    subst (λ (bytes : List ℕ). IsCanonical info entries bytes)
    (ap (λ (rest : List ℕ). (outgoing_of recorder).pulled ++ rest) left ∙ append-nil (outgoing_of recorder).pulled ∙ h.bytes)
    (stands-complete info entries recorder.definitions recorder.stage over h.stands)
