-- What a session has told, and how it says its faults, after each call.
use Rattle.std.proofs.Common.{◌≡◌, ◌≢◌, ◌∙◌, ℕ, ◌≤◌, ⊎_elim, false, List, ◌++◌, None, Some, refl, sym, ap, subst, arith}
use Rattle.std.specs.Prelude.{Bool, Result, Ok, Err}
use Rattle.std.proofs.lemmas.Option.{none-some}
use Rattle.ep_defs.specs.declared.event.EventDef.{EventDef}
use Rattle.nt_write.specs.declared.fault.Fault.{Fault}
use Rattle.nt_write.specs.declared.fault.Fault.TheVariants.{WriteFault, TooLong, OutOfMemory}
use Rattle.nt_write.specs.declared.writer.TraceWriter.{TraceWriter}
use Rattle.nt_write.specs.Writer.{fault_of as writer_fault, sink_of as writer_sink}
use Rattle.pt_io.specs.declared.sink.Sink.{Ghosts as Sink}
use Rattle.pt_io.specs.Faults.{HasRisen}
use Rattle.ep_stream.specs.declared.session.Fate.{Fate}
use Rattle.ep_stream.specs.declared.session.Fate.TheVariants as fate
use Rattle.ep_stream.specs.declared.session.Session.{Session}
use Rattle.ep_stream.specs.Fates.{fate_after}
use Rattle.ep_stream.specs.Session.{Ended, fault_of, sink_of, writer_of}
use Rattle.ep_stream.specs.Telling.{IsFaulty}
use Rattle.ep_stream.proofs.Telling.{later_risen, risen_later}
use Rattle.ep_live.proofs.Pushing.{same}
use Rattle.ep_live_laws.specs.Calls.{TellsMore, TellsSame}
use Rattle.ep_live_laws.specs.Tracing.{Watch, is_fault}
use Rattle.pt_stream.specs.Kept.{HasTold, SaysFaults}

-- ---- faults

pub faults-sound : {S : Type 0} (faults : S → ℕ) (was : ℕ) (session : Session S) → fault_of session ≡ None → faults (sink_of session) ≡ was → SaysFaults faults was session
faults-sound faults was session sound wrote = record { fault = λ is. absurd (none-some WriteFault (sym sound ∙ is)); wrote = λ not. wrote; later = omega (arith, wrote) }

faulty-fault : {S A : Type 0} (faults : S → ℕ) (was : ℕ) (old new : Session S) (result : Result A Fault)
    → IsFaulty faults (writer_of old) (writer_of new) result → SaysFaults faults was old → fault_of new ≡ Some WriteFault → HasRisen was (faults (sink_of new))
faulty-fault faults was old new (Ok x) f s is = absurd (none-some WriteFault (sym f.sound ∙ is))
faulty-fault faults was old new (Err e) f s is =
    let here : e ≡ WriteFault = same e WriteFault (sym (f.fails e refl) ∙ is) in
    ⊎_elim
    (λ before. later_risen was (faults (sink_of old)) (faults (sink_of new)) f.later (s.fault before))
    (λ up. risen_later was (faults (sink_of old)) (faults (sink_of new)) s.later up)
    (f.write_fault (ap Err here))

pub faults-said : {S A : Type 0} (faults : S → ℕ) (was : ℕ) (old new : Session S) (result : Result A Fault)
    → IsFaulty faults (writer_of old) (writer_of new) result → SaysFaults faults was old → SaysFaults faults was new
faults-said faults was old new result f s =
    record {
      fault = faulty-fault faults was old new result f s;
      wrote = λ not.
          f.wrote (λ is. not (f.fails WriteFault is))
          ∙ s.wrote (λ is. not (f.fails WriteFault (f.stays WriteFault is)));
      later = let up = f.later in let low = s.later in omega (arith, up, low);
    }

-- The same writer says the same.
pub faults-kept : {S : Type 0} (faults : S → ℕ) (was : ℕ) (old new : Session S) → writer_of new ≡ writer_of old → SaysFaults faults was old → SaysFaults faults was new
faults-kept {S = S} faults was old new is s =
    let all = subst
    (λ (w : TraceWriter S). (writer_fault w ≡ Some WriteFault → HasRisen was (faults (writer_sink w))) × (writer_fault w ≢ Some WriteFault → faults (writer_sink w) ≡ was) × (was ≤ faults (writer_sink w)))
    (sym is)
    (s.fault, s.wrote, s.later)
    in
    record { fault = all.0; wrote = all.1; later = all.2 }

-- ---- what was told

-- The second session has told what the first has, and has its writer.
pub told-same : {S : Type 0} (side : Sink S) (watch : Watch) (was : ℕ) (first second : List ℕ) (old new : Session S)
    → TellsSame side watch first second old new → writer_of new ≡ writer_of old → HasTold side watch was first old → HasTold side watch was second new
told-same side watch was first second old new law same_writer t =
    record { told = t.told; tracing = law t.told t.tracing; says = faults-kept side.write_faults was old new same_writer t.says }

-- The second session has told some entries more.
pub told-more : {S A : Type 0} (side : Sink S) (watch : Watch) (was : ℕ) (opened : List ℕ) (old new : Session S) (result : Result A Fault)
    → TellsMore side watch old new → IsFaulty side.write_faults (writer_of old) (writer_of new) result → HasTold side watch was opened old → HasTold side watch was opened new
told-more side watch was opened old new result law faulty t =
    let after = law opened t.told t.tracing in
    record { told = t.told ++ after.0; tracing = after.1; says = faults-said side.write_faults was old new result faulty t.says }

-- ---- the fate

-- A fault of the sink is that of the stream's end, unless it was handed in.
pub link-answer : (answer : Result (Unit {0}) Fault) (handed : Fate) → handed ≢ fate.LinkFault → fate_after answer handed ≡ fate.LinkFault → answer ≡ Err WriteFault
link-answer (Ok u) handed not is = absurd (not is)
link-answer (Err WriteFault) handed not is = refl
link-answer (Err TooLong) handed not is = cc
link-answer (Err OutOfMemory) handed not is = cc

-- What did not fail ended as it was to.
pub handed-fate : (answer : Result (Unit {0}) Fault) (handed : Fate) → is_fault (fate_after answer handed) ≡ false → fate_after answer handed ≡ handed
handed-fate (Ok u) handed sound = refl
handed-fate (Err WriteFault) handed sound = cc
handed-fate (Err TooLong) handed sound = cc
handed-fate (Err OutOfMemory) handed sound = cc

pub ends-risen : {S : Type 0} (tells : S → Bool) (taken : S → List ℕ) (faults : S → ℕ) (was : ℕ) (given : List EventDef) (stamp : ℕ) (session : Session S) (handed end : Fate) (sink : S)
    → Ended tells taken faults given stamp handed session end sink → faults (sink_of session) ≤ faults sink → SaysFaults faults was session → handed ≢ fate.LinkFault
    → end ≡ fate.LinkFault → HasRisen was (faults sink)
ends-risen tells taken faults was given stamp session handed end sink e up says not is =
    ⊎_elim
    (λ before. later_risen was (faults (sink_of session)) (faults sink) up (says.fault before))
    (λ rose. risen_later was (faults (sink_of session)) (faults sink) says.later rose)
    (e.write_fault (link-answer e.answer handed not (sym e.fate_is ∙ is)))

pub ends-sound : {S : Type 0} (tells : S → Bool) (taken : S → List ℕ) (faults : S → ℕ) (was : ℕ) (given : List EventDef) (stamp : ℕ) (session : Session S) (handed end : Fate) (sink : S)
    → Ended tells taken faults given stamp handed session end sink → SaysFaults faults was session
    → end ≢ fate.LinkFault → faults sink ≡ was
ends-sound tells taken faults was given stamp session handed end sink e says not =
    let sound : e.answer ≢ Err WriteFault = λ is. not (e.fate_is ∙ ap (λ (a : Result (Unit {0}) Fault). fate_after a handed) is) in
    e.wrote sound ∙ says.wrote (λ is. sound (e.stays WriteFault is))
