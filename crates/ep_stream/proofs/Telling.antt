-- What is told of one entry, and of several one after another.
use Rattle.std.proofs.Common.{◌≡◌, ◌≢◌, ℕ, zero, suc, ◌+◌, ◌-◌, ◌<◌, ◌≤◌, Bool, false, List, [], ◌∷◌, ◌++◌, Option, None, Some, map, length, refl, ap, sym, ◌∙◌, subst, arith, append_assoc, ◌⊎◌, inl, inr}
use Rattle.std.specs.Prelude.{Result, Ok, Err, OnOk, OnErr, IfErr, slice_get, slice_index_or, ◌==◌, if◌then◌else◌}
use Rattle.std.specs.Result.{IsErrAnd}
use Rattle.std.proofs.lemmas.Bool.{ne_eqb}
use Rattle.std.proofs.lemmas.List.{append-nil}
use Rattle.std.proofs.lemmas.List.Sums.{fold-append}
use Rattle.ep_defs.specs.Definitions.{definition_at}
use Rattle.ep_defs.specs.declared.event.EventDef.{EventDef}
use Rattle.ep_defs.specs.declared.session.TraceInfo.{TraceInfo}
use Rattle.ep_defs.specs.Entry.{EventEntry, Entry, Event}
use Rattle.ep_chunk.specs.Record.{Record, frame_bytes}
use Rattle.ep_model.specs.Entries.{entry_if, stack_of}
use Rattle.ep_row.specs.AtRest.{write_of}
use Rattle.nt_write.specs.declared.fault.Fault.{Fault}
use Rattle.nt_write.specs.declared.fault.Fault.TheVariants.{WriteFault, TooLong}
use Rattle.pt_io.specs.Faults.{HasRisen}
use Rattle.nt_write.specs.declared.limits.TheConstants.{FRAMED_EVENTS}
use Rattle.nt_write.specs.declared.writer.EventOut.{EventOut}
use Rattle.nt_write.specs.declared.writer.TraceWriter.{TraceWriter}
use Rattle.nt_write.specs.Writable.{framed, framed_after}
use Rattle.nt_write.specs.Writer.{fault_of, sink_of, IsWriting, TookPart, TookStream, entry_of as written_entry}
use Rattle.ep_stream.specs.Telling.{IsTelling, Tells, Ends, IsFaulty, entry_of, begun_of}

unlike : {A B : Type 0} (a : A) → Some a ≡ None → B
unlike a e = absurd (clash e)
  where
    clash : Some a ≡ None → ⊥
    clash e = cc

fault_same : (a b : Fault) → Some a ≡ Some b → a ≡ b
fault_same a b e = cc

-- A call that was to tell one entry more.
pub tells_one : {S : Type 0} (tells : S → Bool) (taken : S → List ℕ) (before : List ℕ) (defs : ℕ → Option EventDef) (info : TraceInfo) (told : List Entry) (e : Entry) (old new : TraceWriter S) (state : Option Fault) (result : Result (Unit {0}) Fault) → fault_of old ≡ state → IsTelling tells taken before defs info told old → (IsWriting tells taken before defs info told old → OnOk result (IsWriting tells taken before defs info (told ++ e ∷ []) new)) → (IsWriting tells taken before defs info told old → OnErr result (TookPart tells taken before info (told ++ e ∷ []) (sink_of new))) → (IsWriting tells taken before defs info told old → result ≡ Err TooLong → FRAMED_EVENTS < framed (told ++ e ∷ [])) → IfErr result (λ fault. fault_of new ≡ Some fault) → OnOk result (fault_of new ≡ None) → ((fault : Fault) → fault_of old ≡ Some fault → (result ≡ Err fault) × (new ≡ old)) → Tells tells taken before defs info told (e ∷ []) result new
tells_one {S} tells taken before defs info told e old new (Some fault) result is telling ok part long fails sound stays =
    let stay = stays fault is in
    record {
      done = [];
      front = (e ∷ [], refl);
      telling = subst (λ (w : TraceWriter S). IsTelling tells taken before defs info (told ++ []) w) (sym stay.1)
          (subst (λ (es : List Entry). IsTelling tells taken before defs info es old) (sym (append-nil told)) telling);
      all = subst (λ (r : Result (Unit {0}) Fault). OnOk r ([] ≡ e ∷ [])) (sym stay.0) tt;
    }
tells_one {S} tells taken before defs info told e old new None (Ok u) is telling ok part long fails sound stays =
    record {
      done = e ∷ [];
      front = ([], refl);
      telling = record {
        sound = λ none. ok (telling.sound is);
        failed = λ fault some. unlike fault (sym some ∙ sound);
        spent = λ some. unlike TooLong (sym some ∙ sound);
      };
      all = refl;
    }
tells_one {S} tells taken before defs info told e old new None (Err fault) is telling ok part long fails sound stays =
    record {
      done = e ∷ [];
      front = ([], refl);
      telling = record {
        sound = λ none. unlike fault (sym fails ∙ none);
        failed = λ other some. part (telling.sound is);
        spent = λ some. long (telling.sound is) (ap Err (fault_same fault TooLong (sym fails ∙ some)));
      };
      all = tt;
    }

-- An event with a stack is one more.
pub framed_more : (told : List Entry) (e : EventEntry) → (length e.stack == 0) ≡ false → framed (told ++ Event e ∷ []) ≡ framed told + 1
framed_more told e some = fold-append framed_after 0 told (Event e ∷ []) ∙ rw some refl

-- The entry of a record is what is written of it.
pub entry_is : (events : List EventDef) (stacks : Bool) (r : Record) (def : EventDef) (out : EventOut) → definition_at events r.event ≡ Some def → out.thread ≡ r.thread → out.number ≡ r.number → out.stamp ≡ r.stamp → out.activity ≡ r.activity → out.related ≡ r.related → out.frames.now ≡ (if stacks then frame_bytes r.frames else []) → out.payload.now ≡ r.payload → entry_of events stacks r ≡ Event (written_entry def out) ∷ []
entry_is events stacks r def out defined thread number stamp activity related frames payload =
    let make : ℕ → ℕ → ℕ → List ℕ → List ℕ → List ℕ → List ℕ → List Entry =
    λ th nu st ac re sk pa. Event (record { thread = th; number = nu; stamp = st; def = def; activity = ac; related = re; stack = sk; payload = pa }) ∷ []
    in
    let sk : List ℕ = stack_of stacks (write_of r) in
    ap (λ (o : Option EventDef). map Event (entry_if stacks r.thread r.number (begun_of r) o)) defined
    ∙ ap (λ (x : ℕ). make x r.number r.stamp r.activity r.related sk r.payload) (sym thread)
    ∙ ap (λ (x : ℕ). make out.thread x r.stamp r.activity r.related sk r.payload) (sym number)
    ∙ ap (λ (x : ℕ). make out.thread out.number x r.activity r.related sk r.payload) (sym stamp)
    ∙ ap (λ (x : List ℕ). make out.thread out.number out.stamp x r.related sk r.payload) (sym activity)
    ∙ ap (λ (x : List ℕ). make out.thread out.number out.stamp out.activity x sk r.payload) (sym related)
    ∙ ap (λ (x : List ℕ). make out.thread out.number out.stamp out.activity out.related x r.payload) (sym frames)
    ∙ ap (λ (x : List ℕ). make out.thread out.number out.stamp out.activity out.related out.frames.now x) (sym payload)

-- A call that was to tell entries after others that were told, and failed.
pub tells_after : {S A : Type 0} (tells : S → Bool) (taken : S → List ℕ) (before : List ℕ) (defs : ℕ → Option EventDef) (info : TraceInfo) (told first entries more : List Entry) (fault : Fault) (writer : TraceWriter S) → Tells {A = A} tells taken before defs info (told ++ first) entries (Err fault) writer → Tells {A = A} tells taken before defs info told (first ++ (entries ++ more)) (Err fault) writer
tells_after tells taken before defs info told first entries more fault writer t =
    record {
      done = first ++ t.done;
      front = (
        t.front.0 ++ more,
        append_assoc first t.done (t.front.0 ++ more)
            ∙ ap (λ (es : List Entry). first ++ es) (sym (append_assoc t.done t.front.0 more) ∙ ap (λ (es : List Entry). es ++ more) t.front.1),
      );
      telling = subst (λ (es : List Entry). IsTelling tells taken before defs info es writer) (append_assoc told first t.done) t.telling;
      all = tt;
    }

-- A call that told all of its entries after others.
pub told_after : {S A : Type 0} (tells : S → Bool) (taken : S → List ℕ) (before : List ℕ) (defs : ℕ → Option EventDef) (info : TraceInfo) (told first entries : List Entry) (a : A) (writer : TraceWriter S) → Tells tells taken before defs info (told ++ first) entries (Ok a) writer → IsTelling tells taken before defs info (told ++ (first ++ entries)) writer
told_after tells taken before defs info told first entries a writer t =
    subst (λ (es : List Entry). IsTelling tells taken before defs info es writer)
    (append_assoc told first t.done ∙ ap (λ (es : List Entry). told ++ (first ++ es)) t.all) t.telling

-- A writer that stands for entries has told all of them.
pub tells_all : {S A : Type 0} (tells : S → Bool) (taken : S → List ℕ) (before : List ℕ) (defs : ℕ → Option EventDef) (info : TraceInfo) (told entries : List Entry) (a : A) (writer : TraceWriter S) → IsTelling tells taken before defs info (told ++ entries) writer → Tells {A = A} tells taken before defs info told entries (Ok a) writer
tells_all tells taken before defs info told entries a writer telling =
    record { done = entries; front = ([], append-nil entries); telling = telling; all = refl }

-- A definition by its number.
pub definition_is : (events : List EventDef) (number : ℕ) (def : EventDef) → 0 < number → number ≤ length events → def ≡ slice_index_or events (number - 1) def → definition_at events number ≡ Some def
definition_is events zero def some within is = absurd (omega (arith, some))
definition_is events (suc place) def some within is =
    let e : suc place - 1 ≡ place = omega arith in
    found events place def (omega (arith, within)) (is ∙ ap (λ (p : ℕ). slice_index_or events p def) e)
  where
    found : (events : List EventDef) (place : ℕ) (def : EventDef) → place < length events → def ≡ slice_index_or events place def → slice_get events place ≡ Some def
    found [] place def within is = absurd (omega (arith, within))
    found (first ∷ events) zero def within is = ap (λ (d : EventDef). Some d) (sym is)
    found (first ∷ events) (suc place) def within is = found events place def (omega (arith, within)) is

-- A writer that writes stands for its entries.
pub tells_nothing : {S : Type 0} (tells : S → Bool) (taken : S → List ℕ) (before : List ℕ) (defs : ℕ → Option EventDef) (info : TraceInfo) (writer : TraceWriter S) → IsWriting tells taken before defs info [] writer → IsTelling tells taken before defs info [] writer
tells_nothing tells taken before defs info writer writing = record { sound = λ none. writing; failed = λ fault some. unlike fault (sym some ∙ writing.sound); spent = λ some. unlike TooLong (sym some ∙ writing.sound) }

-- What the exit of a `?` answers.
pub err_is : {A : Type 0} (result : Result A Fault) (fault : Fault) → IsErrAnd result (λ other. other ≡ fault) → result ≡ Err fault
err_is (Ok a) fault is = absurd is
err_is (Err other) fault is = ap Err is

pub on_err : {A X : Type 0} (result : Result A Fault) → X → OnErr result X
on_err (Ok a) x = tt
on_err (Err fault) x = x

-- A stream that was to end after a last call.
pub ends : {S : Type 0} (tells : S → Bool) (taken : S → List ℕ) (before : List ℕ) (defs : ℕ → Option EventDef) (info : TraceInfo) (told entries : List Entry) (last answer : Result (Unit {0}) Fault) (writer : TraceWriter S) (sink : S) → Tells tells taken before defs info told entries last writer → ((fault : Fault) → last ≡ Err fault → fault_of writer ≡ Some fault) → OnOk last (fault_of writer ≡ None) → ((es : List Entry) → IsWriting tells taken before defs info es writer → OnOk answer (TookStream tells taken before info es sink)) → ((es : List Entry) → IsWriting tells taken before defs info es writer → OnErr answer (TookPart tells taken before info es sink)) → ((fault : Fault) → fault_of writer ≡ Some fault → (answer ≡ Err fault) × (sink ≡ sink_of writer)) → (answer ≡ Err TooLong → fault_of writer ≡ Some TooLong) → Ends tells taken before info told entries answer sink
ends tells taken before defs info told entries (Ok u) answer writer sink t fails sound ok part stays long =
    let writing = t.telling.sound sound in
    record {
      done = t.done;
      front = t.front;
      whole = subst (λ (es : List Entry). OnOk answer (TookStream tells taken before info (told ++ es) sink)) t.all (ok (told ++ t.done) writing);
      part = part (told ++ t.done) writing;
      spent = λ e. t.telling.spent (long e);
    }
ends {S} tells taken before defs info told entries (Err fault) answer writer sink t fails sound ok part stays long =
    let some : fault_of writer ≡ Some fault = fails fault refl in
    let stay = stays fault some in
    record {
      done = t.done;
      front = t.front;
      whole = subst (λ (r : Result (Unit {0}) Fault). OnOk r (TookStream tells taken before info (told ++ entries) sink)) (sym stay.0) tt;
      part = on_err answer (subst (λ (s : S). TookPart tells taken before info (told ++ t.done) s) (sym stay.1) (t.telling.failed fault some));
      spent = λ e. t.telling.spent (long e);
    }

-- A count that has risen has still risen where it does not fall, and where it began no higher.
pub later_risen : (old mid now : ℕ) → mid ≤ now → HasRisen old mid → HasRisen old now
later_risen old mid now later (inl less) = inl (omega (arith, later, less))
later_risen old mid now later (inr full) = inr (omega (arith, later, full))

pub risen_later : (old mid now : ℕ) → old ≤ mid → HasRisen mid now → HasRisen old now
risen_later old mid now later (inl less) = inl (omega (arith, later, less))
risen_later old mid now later (inr full) = inr full

-- A write fault at the end comes from the last call, from the end, or from before both.
pub ends_faulty : {S : Type 0} (faults : S → ℕ) (old writer : TraceWriter S) (sink : S) (last answer : Result (Unit {0}) Fault) → IsFaulty faults old writer last → (answer ≡ Err WriteFault → (fault_of writer ≡ Some WriteFault) ⊎ HasRisen (faults (sink_of writer)) (faults sink)) → faults (sink_of writer) ≤ faults sink → answer ≡ Err WriteFault → (fault_of old ≡ Some WriteFault) ⊎ HasRisen (faults (sink_of old)) (faults sink)
ends_faulty {S} faults old writer sink last answer faulty write_fault later is = from (write_fault is)
  where
    here : (last : Result (Unit {0}) Fault) → IsFaulty faults old writer last → fault_of writer ≡ Some WriteFault → (fault_of old ≡ Some WriteFault) ⊎ HasRisen (faults (sink_of old)) (faults sink)
    here (Ok u) f some = unlike WriteFault (sym some ∙ f.sound)
    here (Err fault) f some = risen (f.write_fault (ap Err (fault_same fault WriteFault (sym (f.fails fault refl) ∙ some))))
      where
        risen : (fault_of old ≡ Some WriteFault) ⊎ HasRisen (faults (sink_of old)) (faults (sink_of writer)) → (fault_of old ≡ Some WriteFault) ⊎ HasRisen (faults (sink_of old)) (faults sink)
        risen (inl before) = inl before
        risen (inr rose) = inr (later_risen (faults (sink_of old)) (faults (sink_of writer)) (faults sink) later rose)

    from : (fault_of writer ≡ Some WriteFault) ⊎ HasRisen (faults (sink_of writer)) (faults sink) → (fault_of old ≡ Some WriteFault) ⊎ HasRisen (faults (sink_of old)) (faults sink)
    from (inl some) = here last faulty some
    from (inr rose) = inr (risen_later (faults (sink_of old)) (faults (sink_of writer)) (faults sink) faulty.later rose)

-- Without a fault of the sink at the end there was none at the last call.
pub ends_wrote : {S : Type 0} (faults : S → ℕ) (old writer : TraceWriter S) (sink : S) (last answer : Result (Unit {0}) Fault) → IsFaulty faults old writer last → (fault_of writer ≡ Some WriteFault → answer ≡ Err WriteFault) → (answer ≢ Err WriteFault → faults sink ≡ faults (sink_of writer)) → answer ≢ Err WriteFault → faults sink ≡ faults (sink_of old)
ends_wrote faults old writer sink last answer faulty stays wrote not =
    wrote not ∙ faulty.wrote (λ is. not (stays (faulty.fails WriteFault is)))

-- A call that was made answered no fault.
pub ok_is_no_fault : {A : Type 0} (a : A) (fault : Fault) → Ok a ≢ Err fault
ok_is_no_fault a fault e = cc

-- What holds of the error that a `?` answers.
pub err_holds : {A E : Type 0} (result : Result A E) (error : E) (P : E → Type 0) → IsErrAnd result (λ other. other ≡ error) → P error → IfErr result P
err_holds (Ok a) error P is p = tt
err_holds (Err other) error P is p = subst P (sym is) p

-- ---- where stack ids run out

-- A call that was made ran out of none.
pub ok_long : {X : Type 0} (u : Unit {0}) → Ok u ≡ Err TooLong → X
ok_long u e = absurd (clash e)
  where
    clash : Ok u ≡ Err TooLong → ⊥
    clash e = cc

-- Nor has a writer that writes.
pub none_long : {S X : Type 0} (writer : TraceWriter S) → fault_of writer ≡ None → fault_of writer ≡ Some TooLong → X
none_long writer none some = unlike TooLong (sym some ∙ none)

-- The event that found none is one more than there are ids.
pub spent_with : (told : List Entry) (e : EventEntry) → 0 < length e.stack → framed told ≡ FRAMED_EVENTS → FRAMED_EVENTS < framed (told ++ Event e ∷ [])
spent_with told e some full =
    let more : framed (told ++ Event e ∷ []) ≡ framed told + 1 = framed_more told e (ne_eqb (length e.stack) 0 (λ none. omega (arith, some, none))) in
    omega (arith, more, full)
