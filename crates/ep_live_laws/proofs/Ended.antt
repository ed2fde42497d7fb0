-- What a session's sink took once the session was ended.
use Rattle.std.proofs.Common.{◌≡◌, ℕ, ◌<◌, ◌≤◌, false, List, [], ◌∷◌, ◌++◌, length, Option, Some, None, refl, ap, sym, ◌∙◌, subst, arith, append_assoc}
use Rattle.std.specs.Prelude.{Bool, Result, Ok, Err, OnOk, OnErr}
use Rattle.std.specs.List.{sum_by}
use Rattle.std.proofs.lemmas.List.{append-nil}
use Rattle.ep_defs.specs.declared.limits.TheConstants.{WRITES}
use Rattle.ep_defs.specs.declared.event.EventDef.{EventDef}
use Rattle.ep_defs.specs.declared.session.Config.{Config}
use Rattle.ep_defs.specs.declared.session.Marks.{Marks}
use Rattle.ep_defs.specs.declared.session.TraceInfo.{TraceInfo}
use Rattle.ep_defs.specs.Definitions.{definition_at}
use Rattle.ep_defs.specs.Entry.{Entry, PointEntry, Point}
use Rattle.ep_rundown.specs.Rundown.{ending, with_section}
use Rattle.pt_io.specs.declared.sink.Sink.{Ghosts as Sink}
use Rattle.nt_write.specs.declared.fault.Fault.{Fault}
use Rattle.nt_write.specs.declared.fault.Fault.TheVariants.{WriteFault, TooLong, OutOfMemory}
use Rattle.nt_write.specs.declared.limits.TheConstants.{FRAMED_EVENTS}
use Rattle.nt_write.specs.Writer.{point_of, TookPart, TookStream}
use Rattle.ep_stream.specs.declared.session.Fate.{Fate}
use Rattle.ep_stream.specs.declared.session.Fate.TheVariants as fates
use Rattle.ep_stream.specs.declared.session.Session.{Session}
use Rattle.ep_stream.specs.Fates.{fate_after}
use Rattle.ep_stream.specs.Named.{numbers_of}
use Rattle.ep_stream.specs.Session.{fault_of, hand_on, last_entries, rest_of, writer_of}
use Rattle.ep_stream.specs.Telling.{Ends, IsFront, IsTelling}
use Rattle.ep_live_laws.specs.Traced.{AreMarks}
use Rattle.ep_live_laws.specs.Calls.{EndsOver, IsOutcome}
use Rattle.ep_live_laws.specs.Tracing.{TellsPart, TookTraced, TookTracedPart, Watch, is_fault}
use Rattle.ep_live_laws.proofs.Ends.{all-shut, are-marks, are-part, are-traced}
use Rattle.ep_live_laws.proofs.Framed.{framed-ending, framed-taken}
use Rattle.ep_live_laws.proofs.Points.{pointed, pointed-part}

-- ---- fates

-- Where the fate is no fault the stream was ended, and the session had not failed.
ended-sound : (answer : Result (Unit {0}) Fault) (handed : Fate) (state : Option Fault) → ((fault : Fault) → state ≡ Some fault → answer ≡ Err fault) → is_fault (fate_after answer handed) ≡ false → state ≡ None
ended-sound answer handed None stays none = refl
ended-sound answer handed (Some fault) stays none = absurd (failed answer fault (stays fault refl) none)
  where
    failed : (answer : Result (Unit {0}) Fault) (fault : Fault) → answer ≡ Err fault → is_fault (fate_after answer handed) ≡ false → ⊥
    failed (Ok u) fault is none = cc
    failed (Err WriteFault) fault is none = cc
    failed (Err TooLong) fault is none = cc
    failed (Err OutOfMemory) fault is none = cc

ended-ok : (answer : Result (Unit {0}) Fault) (handed : Fate) (P : Type 0) → is_fault (fate_after answer handed) ≡ false → OnOk answer P → P
ended-ok (Ok u) handed P none p = p
ended-ok (Err WriteFault) handed P none p = cc
ended-ok (Err TooLong) handed P none p = cc
ended-ok (Err OutOfMemory) handed P none p = cc

ended-too-long : (answer : Result (Unit {0}) Fault) (handed : Fate) → (handed ≡ fates.TooLong → ⊥) → fate_after answer handed ≡ fates.TooLong → answer ≡ Err TooLong
ended-too-long (Ok u) handed other is = absurd (other is)
ended-too-long (Err WriteFault) handed other is = absurd (cc)
ended-too-long (Err TooLong) handed other is = refl
ended-too-long (Err OutOfMemory) handed other is = absurd (cc)

-- ---- a session that ends

-- The whole of a stream is a part of it.
whole-part : {S : Type 0} (side : Sink S) (before : List ℕ) (info : TraceInfo) (entries : List Entry) (sink : S)
    → TookStream side.tells_taken side.taken before info entries sink → TookPart side.tells_taken side.taken before info entries sink
whole-part side before info entries sink took told =
    let (bytes, canonical, is) = took told in (bytes, bytes, canonical, ([], append-nil bytes), is)

-- Where a section stands: the law on entries that end with a point.
abbrev pub EndsSo : Type 0
EndsSo = (rundown : Bool) (entries : List Entry) (point : PointEntry) → with_section rundown (entries ++ Point point ∷ []) ≡ entries ++ ending rundown entries point

module _ {S : Type 0} (side : Sink S) (section : EndsSo) (watch : Watch) (opened : List ℕ) (handed : Fate) (session : Session S) (fate : Fate) (sink : S) (h : EndsOver side watch opened handed session fate sink) where
  ended-marks : AreMarks watch.events watch.config watch.writes opened (rest_of session).marks
  ended-marks =
      let traces = h.tracing.traces in
      are-marks watch opened traces.accounts (hand_on session) (rest_of session).named (rest_of session).marks traces.keeps h.shut

  -- The last point.
  abbrev last-point : PointEntry
  last-point = point_of h.stamp (numbers_of (rest_of session).named)

  -- What was told of the threads, with it.
  abbrev whole-told : List Entry
  whole-told = h.told ++ Point last-point ∷ []

  -- The session's stream ends with the section, where it was asked for a rundown, and the point.
  last-told : h.told ++ last_entries h.stamp h.told (rest_of session) ≡ with_section watch.config.rundown whole-told
  last-told = sym (section (rest_of session).config.rundown h.told last-point) ∙ ap (λ (c : Config). with_section c.rundown whole-told) h.tracing.config_is

  ends : Ends side.tells_taken side.taken watch.before watch.info h.told (last_entries h.stamp h.told (rest_of session)) h.ended.answer sink
  ends =
      h.ended.stream watch.before watch.info h.told
      (subst (λ (es : List EventDef). IsTelling side.tells_taken side.taken watch.before (definition_at es) watch.info h.told (writer_of session)) (sym h.events) h.tracing.telling)

  ended-whole : is_fault fate ≡ false → ((thread : ℕ) → length (watch.writes thread) ≤ WRITES)
      → TookTraced side watch.before watch.info watch.events watch.config watch.writes (rest_of session).marks sink
  ended-whole sound few =
      let e = h.ended in
      let traces = h.tracing.traces in
      let no_fault : is_fault (fate_after e.answer handed) ≡ false = ap is_fault (sym e.fate_is) ∙ sound in
      let not_failed : fault_of session ≡ None = ended-sound e.answer handed (fault_of session) e.stays no_fault in
      let last = pointed watch opened (fault_of session ≡ None) (hand_on session) (rest_of session).named (rest_of session).marks h.told h.stamp traces in
      let shut = all-shut watch opened last.0.accounts (hand_on session) _ (rest_of session).marks last.0.keeps h.shut in
      record {
        entries = whole-told;
        stream = subst (λ (es : List Entry). TookStream side.tells_taken side.taken watch.before watch.info es sink) last-told
            (ended-ok e.answer handed (TookStream side.tells_taken side.taken watch.before watch.info (h.told ++ last_entries h.stamp h.told (rest_of session)) sink) no_fault ends.whole);
        traced = are-traced watch opened last.0.accounts (hand_on session) _ (rest_of session).marks h.told last-point few last.0.keeps h.shut (λ t is. last.1 t ∙ shut t is) last.0.part (last.0.all not_failed);
      }

  -- What was told with the last point is of the writes that the session gets.
  told-whole : TellsPart watch opened h.tracing.traces.accounts whole-told
  told-whole = pointed-part watch opened (fault_of session ≡ None) (hand_on session) (rest_of session).named (rest_of session).marks h.told h.stamp h.tracing.traces

  -- The sink took what begins the stream of the first of that.
  part-of : (told : List Entry) → IsFront told (with_section watch.config.rundown whole-told) → TookPart side.tells_taken side.taken watch.before watch.info told sink
      → TookTracedPart side watch.before watch.info watch.events watch.config watch.writes (rest_of session).marks sink
  part-of told front took =
      let traces = h.tracing.traces in
      record {
        entries = whole-told;
        part = are-part watch opened traces.accounts (hand_on session) (rest_of session).named (rest_of session).marks whole-told traces.keeps h.shut told-whole;
        told = told;
        front = front;
        stream = took;
      }

  -- After its last point, or a fault before it.
  part-by : (answer : Result (Unit {0}) Fault) (done : List Entry) → IsFront done (last_entries h.stamp h.told (rest_of session))
      → OnOk answer (TookStream side.tells_taken side.taken watch.before watch.info (h.told ++ last_entries h.stamp h.told (rest_of session)) sink)
      → OnErr answer (TookPart side.tells_taken side.taken watch.before watch.info (h.told ++ done) sink)
      → TookTracedPart side watch.before watch.info watch.events watch.config watch.writes (rest_of session).marks sink
  part-by (Ok u) done front whole part = part-of _ ([], append-nil _ ∙ last-told) (whole-part side watch.before watch.info _ sink whole)
  part-by (Err fault) done front whole part = part-of (h.told ++ done) (front.0, append_assoc h.told done front.0 ∙ ap (λ es. h.told ++ es) front.1 ∙ last-told) part

  ended-part : TookTracedPart side watch.before watch.info watch.events watch.config watch.writes (rest_of session).marks sink
  ended-part = part-by h.ended.answer ends.done ends.front ends.whole ends.part

  ended-spent : (handed ≡ fates.TooLong → ⊥) → fate ≡ fates.TooLong → FRAMED_EVENTS < sum_by (λ (m : Marks). m.taken) (rest_of session).marks
  ended-spent other is =
      let e = h.ended in
      let traces = h.tracing.traces in
      let spent = ends.spent (ended-too-long e.answer handed other (sym e.fate_is ∙ is)) in
      let last = framed-ending (rest_of session).config.rundown h.told last-point ends.done ends.front.0 ends.front.1 in
      omega (arith, spent, last, framed-taken watch opened traces.accounts (hand_on session) (rest_of session).named (rest_of session).marks h.told traces.keeps h.shut traces.part)

  pub ended-outcome : IsOutcome side watch opened handed (rest_of session).marks fate sink
  ended-outcome = record { marks_are = ended-marks; whole = ended-whole; part = ended-part; too_long = ended-spent }
