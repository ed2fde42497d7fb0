-- A writer entry by entry, and the stream that it makes.
use Rattle.std.proofs.Common.{◌≡◌, ℕ, ◌+◌, ◌^◌, ◌<◌, ◌≤◌, Bool, true, false, cond, eqb, inl, inr, List, [], ◌∷◌, ◌++◌, length, Option, Some, None, ap, sym, ◌∙◌, subst, arith, append_assoc, length-append}
use Rattle.std.proofs.lemmas.Bool.{cases_Bool}
use Rattle.std.proofs.lemmas.List.{append-nil}
use Rattle.std.proofs.lemmas.List.Sums.{fold-append}
use Rattle.std.specs.Prelude.{Result, IsTrue, OnOk, OnErr, nat_lt, ◌==◌, if◌then◌else◌}
use Rattle.ep_defs.specs.declared.event.EventDef.{EventDef}
use Rattle.ep_defs.specs.declared.session.TraceInfo.{TraceInfo}
use Rattle.ep_defs.specs.Event.{is_same_event}
use Rattle.ep_defs.specs.Session.{is_info}
use Rattle.ep_defs.specs.Entry.{EventEntry, Entry, Event, Point}
use Rattle.pt_io.specs.Taken.{IsPrefix}
use Rattle.nt_object.specs.Stream.{stream_start, blocks_bytes}
use Rattle.nt_stacks.specs.Stacks.{with_stack}
use Rattle.nt_write.specs.declared.limits.TheConstants.{FRAMED_EVENTS}
use Rattle.nt_write.specs.declared.fault.Fault.{Fault}
use Rattle.nt_write.specs.declared.ids.IdTable.{IdTable}
use Rattle.nt_write.specs.declared.output.Output.{Output}
use Rattle.nt_write.specs.declared.pending.Pending.{Pending}
use Rattle.nt_write.specs.declared.writer.TraceWriter.{TraceWriter}
use Rattle.nt_write.specs.Value.{StacksSeen, AreFew, framed_with, no_stacks}
use Rattle.nt_write.specs.Layout.{Layout, empty_layout, id_in, with_member, needs_flush, flushed, with_event, with_entry, with_entries}
use Rattle.nt_write.specs.Writable.{CanTell, StacksFit, framed_after, framed}
use Rattle.nt_write.specs.Canonical.{encoded, IsCanonical}
use Rattle.nt_write.specs.Arriving.{flushed_if, roomy}
use Rattle.nt_write.specs.Writing.{HasWritten, TookAll, TookSome, AreIds, IsPending, IsAt, IsKept}
use Rattle.nt_write.specs.Writer.{IsWriting, TookPart, TookStream}
use Rattle.nt_write.proofs.Answered.{on_ok-then, on_err-then}
use Rattle.nt_write.proofs.Prefixes.{some-all, prefix-more, prefix-behind, prefix-longer, some-longer}
use Rattle.nt_write.proofs.Flushing.{flushed-extends, flushed_if-extends, flushed_if-definitions, flushed_if-flushes}
use Rattle.nt_write.proofs.Defining.{stack-new, stack-known}
use Rattle.nt_write.proofs.BlockSteps.{all-more}
use Rattle.nt_write.proofs.WrittenIsCanonical.{is-canonical, with_entries-more, stacks_fit-more}

-- ---- stacks and the events that have one

-- The count with one entry more.
framed-more : (entries : List Entry) (entry : Entry) → framed (entries ++ entry ∷ []) ≡ framed_after (framed entries) entry
framed-more entries entry = fold-append framed_after 0 entries (entry ∷ [])

-- An event more is one more at most.
pub framed_one : (before : ℕ) (stack : List ℕ) → framed_with before stack ≤ before + 1
framed_one before stack =
    elim (length stack == 0) as (λ v. (if v then before else before + 1) ≤ before + 1) [ true ↦ omega arith | false ↦ omega arith ]

-- A stack more makes the list longer by one at most.
one-stack : (stacks : List (List ℕ)) (stack : List ℕ) → length (with_stack stacks stack) ≤ length stacks + 1
one-stack stacks stack =
    elim (cases_Bool (nat_lt (length stacks) (length (with_stack stacks stack)))) [
      | inl e ↦ rw (stack-new stacks stack e) (omega (arith, length-append stacks (stack ∷ [])))
      | inr e ↦ rw (stack-known stacks stack e) (omega arith)
    ]

-- So does an entry.
one-stack-more : (layout : Layout) (entry : Entry) → length (with_entry layout entry).stacks ≤ length layout.stacks + 1
one-stack-more layout (Event event) = by_test (needs_flush layout event)
  where
    by_test : (needed : Bool) → length (with_event (cond needed (flushed layout) layout) event).stacks ≤ length layout.stacks + 1
    by_test true = one-stack layout.stacks event.stack
    by_test false = one-stack layout.stacks event.stack
one-stack-more layout (Point point) = omega arith

-- And definitions.
one-member : (definitions : List EventDef) (def : EventDef) → length (with_member is_same_event definitions def) ≤ length definitions + 1
one-member definitions def =
    elim (cases_Bool (eqb (id_in is_same_event def definitions) 0)) [
      | inl e ↦ rw e (omega (arith, length-append definitions (def ∷ [])))
      | inr e ↦ rw e (omega arith)
    ]

one-definition : (layout : Layout) (entry : Entry) → length (with_entry layout entry).definitions ≤ length layout.definitions + 1
one-definition layout (Event event) = by_test (needs_flush layout event)
  where
    by_test : (needed : Bool) → length (with_event (cond needed (flushed layout) layout) event).definitions ≤ length layout.definitions + 1
    by_test true = one-member layout.definitions event.def
    by_test false = one-member layout.definitions event.def
one-definition layout (Point point) = omega arith

-- The stacks of a writer fit with one entry more.
fits-with : {S : Type 0} (tells : S → Bool) (taken : S → List ℕ) (before : List ℕ) (defs : ℕ → Option EventDef) (info : TraceInfo) (entries : List Entry) (entry : Entry) (writer : TraceWriter S) → IsWriting tells taken before defs info entries writer → StacksFit empty_layout (entries ++ entry ∷ [])
fits-with tells taken before defs info entries entry writer h =
    let layout : Layout = with_entries empty_layout entries in
    let known : length layout.stacks ≤ FRAMED_EVENTS = subst (λ (ss : List (List ℕ)). length ss ≤ FRAMED_EVENTS) h.at.known (within (length writer.pending.stacks.known) writer.pending.stacks.framed h.at.few.few h.at.few.most) in
    stacks_fit-more empty_layout entries entry h.stacks_fit
    (subst (λ (l : Layout). length l.stacks < 2 ^ 31) (sym (with_entries-more empty_layout entries entry)) (below (length layout.stacks) (length (with_entry layout entry).stacks) known (one-stack-more layout entry)))
  where
    below : (n m : ℕ) → n ≤ FRAMED_EVENTS → m ≤ n + 1 → m < 2 ^ 31
    below n m h g = omega arith

    within : (n m : ℕ) → n ≤ m → m ≤ FRAMED_EVENTS → n ≤ FRAMED_EVENTS
    within n m h g = omega arith

-- Where a writer is does not depend on its fault.
still-at : {S : Type 0} (tells : S → Bool) (taken : S → List ℕ) (start : List ℕ) (defs : ℕ → Option EventDef) (layout : Layout) (old new : TraceWriter S) → IsAt tells taken start defs layout old → new.output ≡ old.output → new.ids ≡ old.ids → new.pending ≡ old.pending → IsAt tells taken start defs layout new
still-at tells taken start defs layout old new h output ids pending =
    record {
      kept = record {
        output = subst (λ (o : Output _). HasWritten tells taken start layout.blocks o) (sym output) h.kept.output;
        pending = subst (λ (p : Pending). IsPending layout p) (sym pending) h.kept.pending;
        ids = subst (λ (t : IdTable). AreIds defs layout.definitions t) (sym ids) h.kept.ids;
        flushes = h.kept.flushes;
      };
      known = ap (λ (p : Pending). p.stacks.known) pending ∙ h.known;
      few = subst (λ (p : Pending). AreFew p.stacks.known p.stacks.framed) (sym pending) h.few;
    }

-- The writer that wrote one entry more.
pub writing-more : {S : Type 0} (tells : S → Bool) (taken : S → List ℕ) (before : List ℕ) (defs : ℕ → Option EventDef) (info : TraceInfo) (entries : List Entry) (entry : Entry) (old mid new : TraceWriter S) → IsWriting tells taken before defs info entries old → new.fault ≡ None → CanTell entry → mid.pending.stacks.framed ≡ framed_after old.pending.stacks.framed entry → IsAt tells taken (before ++ stream_start info) defs (with_entry (with_entries empty_layout entries) entry) mid → new.output ≡ mid.output → new.ids ≡ mid.ids → new.pending ≡ mid.pending → IsWriting tells taken before defs info (entries ++ entry ∷ []) new
writing-more tells taken before defs info entries entry old mid new h sound can count at output ids pending =
    record {
      sound = sound;
      at =
          subst (λ (layout : Layout). IsAt tells taken (before ++ stream_start info) defs layout new)
          (sym (with_entries-more empty_layout entries entry))
          (still-at tells taken (before ++ stream_start info) defs (with_entry (with_entries empty_layout entries) entry) mid new at output ids pending);
      framed_are = ap (λ (p : Pending). p.stacks.framed) pending ∙ count ∙ ap (λ (n : ℕ). framed_after n entry) h.framed_are ∙ sym (framed-more entries entry);
      info_fits = h.info_fits;
      can_tell = all-more CanTell entries entry h.can_tell can;
      stacks_fit = fits-with tells taken before defs info entries entry old h;
    }

-- ---- a part of a stream

-- Bytes that begin the blocks and the end begin the stream behind its start.
pub part-of : {S : Type 0} (tells : S → Bool) (taken : S → List ℕ) (before : List ℕ) (info : TraceInfo) (entries : List Entry) (sink : S) → IsCanonical info entries (encoded info entries) → TookSome tells taken (before ++ stream_start info) (blocks_bytes (flushed (with_entries empty_layout entries)).blocks ++ 1 ∷ []) sink → TookPart tells taken before info entries sink
part-of tells taken before info entries sink canonical t =
    λ h.
    let some = t.some h in
    let start : List ℕ = stream_start info in
    let blocks : List ℕ = blocks_bytes (flushed (with_entries empty_layout entries)).blocks in
    let behind = prefix-behind start some.0 (blocks ++ 1 ∷ []) some.1 in
    (encoded info entries, start ++ some.0, canonical, (behind.0, behind.1 ∙ sym (append_assoc start blocks (1 ∷ []))), some.2 ∙ append_assoc before start some.0)

-- A part of what is flushed with one entry more.
pub part-more : {S : Type 0} (tells : S → Bool) (taken : S → List ℕ) (before : List ℕ) (info : TraceInfo) (entries : List Entry) (entry : Entry) (bytes : List ℕ) (sink : S) → IsCanonical info (entries ++ entry ∷ []) (encoded info (entries ++ entry ∷ [])) → IsPrefix bytes (blocks_bytes (with_entry (with_entries empty_layout entries) entry).blocks) → TookSome tells taken (before ++ stream_start info) bytes sink → TookPart tells taken before info (entries ++ entry ∷ []) sink
part-more tells taken before info entries entry bytes sink canonical p t =
    let next : Layout = with_entry (with_entries empty_layout entries) entry in
    let all : List Entry = entries ++ entry ∷ [] in
    let blocks : List ℕ = blocks_bytes (flushed (with_entries empty_layout all)).blocks in
    let begins : IsPrefix bytes blocks = subst (λ (layout : Layout). IsPrefix bytes (blocks_bytes (flushed layout).blocks)) (sym (with_entries-more empty_layout entries entry))
    (prefix-longer bytes (blocks_bytes next.blocks) (blocks_bytes (flushed next).blocks) p (flushed-extends next)) in
    part-of tells taken before info all sink canonical
    (some-longer tells taken (before ++ stream_start info) bytes (blocks ++ 1 ∷ []) sink (prefix-longer bytes blocks (blocks ++ 1 ∷ []) begins (prefix-more blocks (1 ∷ []))) t)

-- A part of the start is a part of the stream of no entries.
pub part-start : {S : Type 0} (tells : S → Bool) (taken : S → List ℕ) (before : List ℕ) (info : TraceInfo) (sink : S) → IsTrue (is_info info) → TookSome tells taken before (stream_start info) sink → TookPart tells taken before info [] sink
part-start tells taken before info sink fits t =
    λ h.
    let some = t.some h in
    let start : List ℕ = stream_start info in
    let more : List ℕ = blocks_bytes (flushed empty_layout).blocks in (
      encoded info [],
      some.0,
      is-canonical info [] fits tt (omega arith) tt,
      prefix-longer some.0 start ((start ++ more) ++ 1 ∷ []) some.1 (more ++ 1 ∷ [], sym (append_assoc start more (1 ∷ []))),
      some.2,
    )

-- Where nothing more was written, the sink took a part of what is with an event more.
pub nothing-more : {S : Type 0} (tells : S → Bool) (taken : S → List ℕ) (start : List ℕ) (defs : ℕ → Option EventDef) (layout : Layout) (event : EventEntry) (writer : TraceWriter S) → IsKept tells taken start defs layout writer → TookSome tells taken start (blocks_bytes (roomy layout event).blocks) writer.output.sink
nothing-more tells taken start defs layout event writer h =
    some-longer tells taken start (blocks_bytes layout.blocks) (blocks_bytes (roomy layout event).blocks) writer.output.sink
    (flushed_if-extends (needs_flush layout event) layout)
    (some-all tells taken start (blocks_bytes layout.blocks) writer.output.sink h.output.took)

-- The writer that made the room which an event needs stands where the layout with that room does.
pub kept-roomy : {S : Type 0} (tells : S → Bool) (taken : S → List ℕ) (start : List ℕ) (defs : ℕ → Option EventDef) (layout : Layout) (event : EventEntry) (writer : TraceWriter S) (output : Output S) (pending : Pending) (lacks : Bool) → IsKept tells taken start defs layout writer → lacks ≡ needs_flush layout event → HasWritten tells taken start (flushed_if lacks layout).blocks output × IsPending (flushed_if lacks layout) pending
    → IsKept tells taken start defs (roomy layout event) (record writer { output = output; pending = pending })
kept-roomy tells taken start defs layout event writer output pending lacks h needs made =
    record {
      output = subst (λ (full : Bool). HasWritten tells taken start (flushed_if full layout).blocks output) needs made.0;
      pending = subst (λ (full : Bool). IsPending (flushed_if full layout) pending) needs made.1;
      ids = subst (λ (ds : List EventDef). AreIds defs ds writer.ids) (sym (flushed_if-definitions (needs_flush layout event) layout)) h.ids;
      flushes = flushed_if-flushes (needs_flush layout event) layout h.flushes;
    }

-- ---- what is canonical

-- What a writer's entries make is canonical.
pub writing-canonical : {S : Type 0} (tells : S → Bool) (taken : S → List ℕ) (before : List ℕ) (defs : ℕ → Option EventDef) (info : TraceInfo) (entries : List Entry) (writer : TraceWriter S) → IsWriting tells taken before defs info entries writer → IsCanonical info entries (encoded info entries)
writing-canonical tells taken before defs info entries writer h =
    is-canonical info entries h.info_fits h.can_tell (omega (arith, h.at.kept.ids.used, writer.ids.few)) h.stacks_fit

-- It is with one entry more that can be told.
pub writing-canonical-more : {S : Type 0} (tells : S → Bool) (taken : S → List ℕ) (before : List ℕ) (defs : ℕ → Option EventDef) (info : TraceInfo) (entries : List Entry) (entry : Entry) (writer : TraceWriter S) → IsWriting tells taken before defs info entries writer → CanTell entry → IsCanonical info (entries ++ entry ∷ []) (encoded info (entries ++ entry ∷ []))
writing-canonical-more tells taken before defs info entries entry writer h can =
    let layout : Layout = with_entries empty_layout entries in
    let more : length (with_entries empty_layout (entries ++ entry ∷ [])).definitions ≤ length layout.definitions + 1 =
    subst (λ (l : Layout). length l.definitions ≤ length layout.definitions + 1) (sym (with_entries-more empty_layout entries entry)) (one-definition layout entry) in
    is-canonical info (entries ++ entry ∷ []) h.info_fits (all-more CanTell entries entry h.can_tell can)
    (omega (arith, more, h.at.kept.ids.used, writer.ids.few))
    (fits-with tells taken before defs info entries entry writer h)

-- A sink that took the blocks of a writer and the end took the stream of its entries.
pub stream-done : {S : Type 0} (tells : S → Bool) (taken : S → List ℕ) (before : List ℕ) (defs : ℕ → Option EventDef) (info : TraceInfo) (entries : List Entry) (writer : TraceWriter S) (sink : S) → IsWriting tells taken before defs info entries writer → TookAll tells taken (before ++ stream_start info) (blocks_bytes (flushed (with_entries empty_layout entries)).blocks ++ 1 ∷ []) sink → TookStream tells taken before info entries sink
stream-done tells taken before defs info entries writer sink h t =
    λ told.
    let start : List ℕ = stream_start info in
    let blocks : List ℕ = blocks_bytes (flushed (with_entries empty_layout entries)).blocks in (
      (start ++ blocks) ++ 1 ∷ [],
      writing-canonical tells taken before defs info entries writer h,
      t.all told ∙ append_assoc before start (blocks ++ 1 ∷ []) ∙ ap (λ (x : List ℕ). before ++ x) (sym (append_assoc start blocks (1 ∷ []))),
    )

-- ---- the start

-- The output behind a stream's start.
output-begun : {S : Type 0} (tells : S → Bool) (taken : S → List ℕ) (before : List ℕ) (info : TraceInfo) (sink : S) (output : Output S) → TookAll tells taken before (stream_start info) sink → output.sink ≡ sink → HasWritten tells taken (taken sink) [] output → HasWritten tells taken (before ++ stream_start info) [] output
output-begun tells taken before info sink output t same h =
    record {
      took =
          record {
            all =
                λ told.
                ap taken same ∙ t.all (subst (λ s. IsTrue (tells s)) same told) ∙ sym (append-nil (before ++ stream_start info));
          };
      alignment = h.alignment;
    }

-- A writer that has begun stands for no entries.
pub begun : {S : Type 0} (tells : S → Bool) (taken : S → List ℕ) (before : List ℕ) (defs : ℕ → Option EventDef) (info : TraceInfo) (sink : S) (writer : TraceWriter S) → IsTrue (is_info info) → writer.fault ≡ None → TookAll tells taken before (stream_start info) sink → writer.output.sink ≡ sink → HasWritten tells taken (taken sink) [] writer.output → AreIds defs [] writer.ids → IsPending empty_layout writer.pending → writer.pending.stacks ≡ no_stacks → IsWriting tells taken before defs info [] writer
begun tells taken before defs info sink writer fits sound t same h ids pending stacks =
    record {
      sound = sound;
      at =
          record {
            kept = record {
              output = output-begun tells taken before info sink writer.output t same h;
              pending = pending;
              ids = ids;
              flushes = record { definitions = omega arith; stacks = omega arith };
            };
            known = ap (λ (s : StacksSeen). s.known) stacks;
            few = subst (λ (s : StacksSeen). AreFew s.known s.framed) (sym stacks) (record { few = omega arith; most = omega arith });
          };
      framed_are = ap (λ (s : StacksSeen). s.framed) stacks;
      info_fits = fits;
      can_tell = tt;
      stacks_fit = tt;
    }

-- ---- the end

-- A writer that stands for entries has no fault.
pub no_fault : {S : Type 0} (tells : S → Bool) (taken : S → List ℕ) (before : List ℕ) (defs : ℕ → Option EventDef) (info : TraceInfo) (entries : List Entry) (writer : TraceWriter S) (fault : Fault) → IsWriting tells taken before defs info entries writer → writer.fault ≡ Some fault → ⊥
no_fault tells taken before defs info entries writer fault h failed = differ (sym h.sound ∙ failed)
  where
    differ : None ≡ Some fault → ⊥
    differ e = cc

-- What the sink of an ended writer took.
pub ended : {S A : Type 0} (tells : S → Bool) (taken : S → List ℕ) (before : List ℕ) (defs : ℕ → Option EventDef) (info : TraceInfo) (entries : List Entry) (old mid writer : TraceWriter S) (sink : S) (r result : Result A Fault) → IsWriting tells taken before defs info entries old → writer ≡ mid → result ≡ r → sink ≡ writer.output.sink → OnOk r (TookAll tells taken (before ++ stream_start info) (blocks_bytes (flushed (with_entries empty_layout entries)).blocks ++ 1 ∷ []) mid.output.sink) → OnOk result (TookStream tells taken before info entries sink)
ended {S} {A} tells taken before defs info entries old mid writer sink r result h writer-is result-is sink-is ok =
    subst (λ (x : Result A Fault). OnOk x (TookStream tells taken before info entries sink)) (sym result-is)
    (subst (λ (s : S). OnOk r (TookStream tells taken before info entries s)) (sym (sink-is ∙ ap (λ (w : TraceWriter S). w.output.sink) writer-is))
    (on_ok-then r (λ t. stream-done tells taken before defs info entries old mid.output.sink h t) ok))

-- What the sink of a writer took that broke off at its end.
pub broken : {S A : Type 0} (tells : S → Bool) (taken : S → List ℕ) (before : List ℕ) (info : TraceInfo) (entries : List Entry) (mid writer : TraceWriter S) (sink : S) (r result : Result A Fault) → IsCanonical info entries (encoded info entries) → writer ≡ mid → result ≡ r → sink ≡ writer.output.sink → OnErr r (TookSome tells taken (before ++ stream_start info) (blocks_bytes (flushed (with_entries empty_layout entries)).blocks ++ 1 ∷ []) mid.output.sink) → OnErr result (TookPart tells taken before info entries sink)
broken {S} {A} tells taken before info entries mid writer sink r result canonical writer-is result-is sink-is part =
    subst (λ (x : Result A Fault). OnErr x (TookPart tells taken before info entries sink)) (sym result-is)
    (subst (λ (s : S). OnErr r (TookPart tells taken before info entries s)) (sym (sink-is ∙ ap (λ (w : TraceWriter S). w.output.sink) writer-is))
    (on_err-then r (λ t. part-of tells taken before info entries mid.output.sink canonical t) part))
