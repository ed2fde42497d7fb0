-- What each call makes of a session that has told of running threads.
use Rattle.std.proofs.Common.{◌≡◌, ℕ, zero, suc, Bool, true, false, inl, inr, List, [], ◌∷◌, ◌++◌, map, filter, Option, Some, None, refl, ap, sym, ◌∙◌, subst, arith, append_assoc}
use Rattle.std.specs.Prelude.{not, ◌==◌, if◌then◌else◌, Result, Ok, Err, OnOk, OnErr, slice_get}
use Rattle.std.proofs.lemmas.Bool.{cases_eq, eq-eqb, ne_eqb, or_cases, or_left, or_right, false_from_ne_true, false≢true}
use Rattle.std.proofs.lemmas.List.{append-nil}
use Rattle.std.proofs.lemmas.Option.{none-some}
use Rattle.ep_defs.specs.Definitions.{definition_at}
use Rattle.ep_defs.specs.declared.event.EventDef.{EventDef}
use Rattle.ep_defs.specs.declared.session.Config.{Config}
use Rattle.ep_defs.specs.declared.session.Marks.{Marks}
use Rattle.ep_defs.specs.Entry.{Entry}
use Rattle.ep_model.specs.History.{insert_ascending}
use Rattle.ep_model.proofs.Ascending.{IsAscending}
use Rattle.ep_model.proofs.Lists.{has}
use Rattle.ep_chunk.specs.Record.{Record}
use Rattle.ep_slot.specs.Hand.{HandState}
use Rattle.ep_guarded.specs.Tied.{AreCounted}
use Rattle.pt_io.specs.declared.sink.Sink.{Ghosts as Sink}
use Rattle.nt_write.specs.declared.fault.Fault.{Fault}
use Rattle.nt_write.specs.declared.writer.TraceWriter.{TraceWriter}
use Rattle.nt_write.specs.Writer.{fault_of as writer_fault}
use Rattle.ep_stream.specs.declared.opened.Named.{Named}
use Rattle.ep_stream.specs.declared.session.Session.{Session}
use Rattle.ep_stream.specs.Named.{first_named, insert_by}
use Rattle.ep_stream.specs.Rows.{first_hand}
use Rattle.ep_stream.specs.Session.{Rest, Detached, Writes, WasOpened, fault_of, hand_on, rest_of, writer_of}
use Rattle.ep_stream.specs.Steps.{TellsStep, Closes}
use Rattle.ep_stream.specs.Sweep.{Swept, Taking, TellsTakings, entries_in, hands_after, named_after, named_behind, point_after, records_in, rows_of, sweep_entries}
use Rattle.ep_stream.specs.Telling.{IsFaulty, IsFront, IsTelling, entries_of}
use Rattle.ep_live_laws.specs.Calls.{ClosedIn, IsNew, OpensOn, SweptIn, TakesNothing, TellsMore, TellsSame}
use Rattle.ep_live_laws.specs.Tracing.{Account, IsAdmittedAs, IsHandBy, IsHeld, IsOneOf, IsTracing, TellsAll, TellsPart, Traces, Watch, marks_by}
use Rattle.ep_live_laws.proofs.Accounts.{one-before, with_opened}
use Rattle.ep_live_laws.proofs.All.{all-fresh}
use Rattle.ep_live_laws.proofs.Keeping.{keeps-opened}
use Rattle.ep_live_laws.proofs.Part.{part-front, part-none, part-opened, unspoken-events, unspoken-sightings}
use Rattle.ep_live_laws.proofs.Points.{pointed, pointed-part}
use Rattle.ep_live_laws.proofs.Sweeps.{ascending-front, closed-traces, rows-ascending, swept-traces}

-- ---- where nothing is told

-- The same of hands, names and marks that are the same.
traces-same : (watch : Watch) (opened : List ℕ) (Sound Still : Type 0) (old new : ℕ → Option HandState) (named now : List Named) (marks after : List Marks) (told : List Entry)
    → (Still → Sound) → ((row : ℕ) → new row ≡ old row) → now ≡ named → after ≡ marks
    → Traces watch opened Sound old named marks told → Traces watch opened Still new now after told
traces-same watch opened Sound Still old new named now marks after told sound same names are h =
    record {
      accounts = h.accounts;
      keeps = record {
        ascending = h.keeps.ascending;
        held = λ row. subst (IsHeld watch.home opened h.accounts row) (sym (same row)) (h.keeps.held row);
        named_are = names ∙ h.keeps.named_are;
        marks_are = are ∙ h.keeps.marks_are;
        open_named = h.keeps.open_named;
        within = h.keeps.within;
        counted = h.keeps.counted;
      };
      part = h.part;
      all = λ still. h.all (sound still);
    }

-- The account of a thread of which nothing is known.
abbrev no_account : Account
no_account = record { from = 0; to = 0; taken = 0; last = 0; is_open = false; is_named = false }

traces-none : (watch : Watch) (Sound : Type 0) (hands : ℕ → Option HandState) → ((row : ℕ) → hands row ≡ None) → Traces watch [] Sound hands [] [] []
traces-none watch Sound hands none =
    record {
      accounts = λ t. no_account;
      keeps = record {
        ascending = tt;
        held = λ row. subst (IsHeld watch.home [] (λ t. no_account) row) (sym (none row)) (λ t is at. refl);
        named_are = refl;
        marks_are = refl;
        open_named = λ t is. cc;
        within = λ t is off. omega arith;
        counted = λ t is off. absurd (false≢true is);
      };
      part = part-none watch (λ t. no_account);
      all = λ sound t is few. absurd (false≢true is);
    }

-- A session that was just started.
pub tracing-started : {S : Type 0} (side : Sink S) (watch : Watch) (session : Session S) → IsNew side watch session → IsTracing side watch [] [] session
tracing-started side watch session new =
    record {
      config_is = ap (λ (r : Rest). r.config) new.rest;
      telling = subst (λ bytes. IsTelling side.tells_taken side.taken bytes (definition_at watch.events) watch.info [] (writer_of session)) new.before (new.started.telling watch.events);
      traces = traces-same watch [] (fault_of session ≡ None) (fault_of session ≡ None) (hand_on session) (hand_on session) [] (rest_of session).named [] (rest_of session).marks []
          (λ sound. sound) (λ row. refl) (ap (λ (r : Rest). r.named) new.rest) (ap (λ (r : Rest). r.marks) new.rest)
          (traces-none watch (fault_of session ≡ None) (hand_on session) new.shut);
    }

-- A session whose writer is the same has failed if it had.
fault-same : {S : Type 0} (old new : Session S) → writer_of new ≡ writer_of old → fault_of new ≡ None → fault_of old ≡ None
fault-same old new same none = sym (ap writer_fault same) ∙ none

-- A session that has the same hands, names and marks, and the same writer.
pub tracing-same : {S : Type 0} (side : Sink S) (watch : Watch) (opened : List ℕ) (old new : Session S)
    → TakesNothing old new → TellsSame side watch opened opened old new
tracing-same {S} side watch opened old new call told h =
    record {
      config_is = ap (λ (r : Rest). r.config) call.rest ∙ h.config_is;
      telling = subst (λ (w : TraceWriter S). IsTelling side.tells_taken side.taken watch.before (definition_at watch.events) watch.info told w) (sym call.writer) h.telling;
      traces = traces-same watch opened (fault_of old ≡ None) (fault_of new ≡ None) (hand_on old) (hand_on new) (rest_of old).named (rest_of new).named (rest_of old).marks (rest_of new).marks told
          (fault-same old new call.writer) call.hands (ap (λ (r : Rest). r.named) call.rest) (ap (λ (r : Rest). r.marks) call.rest) h.traces;
    }

-- ---- one thread more

traces-opened : (watch : Watch) (opened : List ℕ) (thread : ℕ) (Sound Still : Type 0) (old new : ℕ → Option HandState) (named : List Named) (marks : List Marks) (told : List Entry) (id : ℕ) (hand : HandState)
    → (Still → Sound) → (IsOneOf opened thread → ⊥) → old (watch.home thread) ≡ None
    → hand ≡ first_hand id hand.thread hand.from → hand.thread ≡ thread → ((r : ℕ) → new r ≡ (if r == watch.home thread then Some hand else old r))
    → Traces watch opened Sound old named marks told
    → Traces watch (insert_ascending thread opened) Still new (insert_by (λ n. n.thread) (first_named thread) named) marks told
traces-opened watch opened thread Sound Still old new named marks told id hand sound apart none fresh thread_is sets h =
    let accounts = h.accounts in
    record {
      accounts = with_opened accounts thread hand.from;
      keeps = keeps-opened watch opened thread hand.from accounts old new named marks hand apart none thread_is refl (ap (λ (x : HandState). x.taken) fresh) (ap (λ (x : HandState). x.last) fresh) sets h.keeps;
      part = part-opened watch opened thread hand.from accounts told apart h.part;
      all = λ still t is few.
          elim (cases_eq t thread) [
            | inl same ↦
                let not_there = false_from_ne_true (has thread opened) apart in
                let nothing = unspoken-events opened thread told not_there h.part.alone in
                let unseen = unspoken-sightings opened thread told not_there h.part.alone in
                rw (eq-eqb t thread same, same) (all-fresh thread _ told refl refl nothing unseen)
            | inr other ↦
                let off = ne_eqb t thread other in
                rw off (h.all (sound still) t (one-before thread t opened is off) (rw off at few))
          ];
    }

-- A session that was opened on a thread.
pub tracing-opened : {S : Type 0} (side : Sink S) (watch : Watch) (opened : List ℕ) (thread : ℕ) (old new : Session S)
    → OpensOn watch opened thread old new → TellsSame side watch opened (insert_ascending thread opened) old new
tracing-opened {S} side watch opened thread old new call told h =
    let a = call.attached in
    let names : (rest_of new).named ≡ insert_by (λ n. n.thread) (first_named thread) (rest_of old).named =
    ap (λ (r : Rest). r.named) a.rest ∙ ap (λ t. insert_by (λ (n : Named). n.thread) (first_named t) (rest_of old).named) a.tested in
    record {
      config_is = ap (λ (r : Rest). r.config) a.rest ∙ h.config_is;
      telling = subst (λ (w : TraceWriter S). IsTelling side.tells_taken side.taken watch.before (definition_at watch.events) watch.info told w) (sym call.writer) h.telling;
      traces = traces-same watch (insert_ascending thread opened) (fault_of new ≡ None) (fault_of new ≡ None) (hand_on new) (hand_on new)
          (insert_by (λ n. n.thread) (first_named thread) (rest_of old).named) (rest_of new).named (rest_of old).marks (rest_of new).marks told
          (λ sound. sound) (λ row. refl) names (ap (λ (r : Rest). r.marks) a.rest)
          (traces-opened watch opened thread (fault_of old ≡ None) (fault_of new ≡ None) (hand_on old) (hand_on new) (rest_of old).named (rest_of old).marks told (rest_of old).seat.id a.hand
          (fault-same old new call.writer) call.fresh call.shut a.fresh a.tested a.hands h.traces);
    }

-- Each thread of these marks is one of these.
marks-within : (accounts : ℕ → Account) (opened : List ℕ) (place : ℕ) (mark : Marks) (threads : List ℕ) → ((t : ℕ) → has t threads ≡ true → IsOneOf opened t) → slice_get (map (marks_by accounts) threads) place ≡ Some mark → IsOneOf opened mark.thread
marks-within accounts opened place mark [] within is = absurd (none-some mark is)
marks-within accounts opened zero mark (t ∷ threads) within is =
    let same : marks_by accounts t ≡ mark = cc in
    subst (IsOneOf opened) (ap (λ (m : Marks). m.thread) same) (within t (or_left (t == t) (has t threads) (eq-eqb t t refl)))
marks-within accounts opened (suc place) mark (t ∷ threads) within is =
    marks-within accounts opened place mark threads (λ x later. within x (or_right (t == x) (has x threads) later)) is

-- The session was opened on each thread on which it is open or was.
pub tracing-fresh : {S : Type 0} (side : Sink S) (watch : Watch) (opened : List ℕ) (told : List Entry) (thread : ℕ) (session : Session S)
    → IsTracing side watch opened told session → WasOpened session thread → IsOneOf opened thread
tracing-fresh side watch opened told thread session h (inl held) =
    let row = held.0 in
    let by : IsHandBy watch.home opened h.traces.accounts row held.1 = subst (IsHeld watch.home opened h.traces.accounts row) held.2 (h.traces.keeps.held row) in
    subst (IsOneOf opened) held.3 by.is_opened
tracing-fresh side watch opened told thread session h (inr marked) =
    let accounts = h.traces.accounts in
    let is : slice_get (map (marks_by accounts) (filter (λ t. not (accounts t).is_open) opened)) marked.0 ≡ Some marked.1 = ap (λ ms. slice_get ms marked.0) (sym h.traces.keeps.marks_are) ∙ marked.2 in
    subst (IsOneOf opened) marked.3 (marks-within accounts opened marked.0 marked.1 _ (λ t there. any_filtered (λ x. not (accounts x).is_open) t opened there) is)
  where
    any_filtered : (keep : ℕ → Bool) (t : ℕ) (xs : List ℕ) → has t (filter keep xs) ≡ true → has t xs ≡ true
    any_filtered keep t [] is = is
    any_filtered keep t (x ∷ xs) is =
        elim (keep x) as (λ v. has t (if v then x ∷ filter keep xs else filter keep xs) ≡ true → has t (x ∷ xs) ≡ true) [
          | true ↦ λ there.
              elim (or_cases (x == t) (has t (filter keep xs)) there) [
                | inl same ↦ or_left (x == t) (has t xs) same
                | inr later ↦ or_right (x == t) (has t xs) (any_filtered keep t xs later)
              ]
          | false ↦ λ there. or_right (x == t) (has t xs) (any_filtered keep t xs there)
        ] is

-- ---- what a call tells

-- A writer that has not failed had not failed before, and told all that it was to tell.
sound-before : {S A : Type 0} (faults : S → ℕ) (old new : TraceWriter S) (result : Result A Fault) → IsFaulty faults old new result → writer_fault new ≡ None → writer_fault old ≡ None
sound-before {A = A} faults old new (Err fault) faulty none = absurd (none-some fault (sym none ∙ faulty.fails fault refl))
sound-before {A = A} faults old new (Ok a) faulty none = from (writer_fault old) refl
  where
    clash : (fault : Fault) → Ok a ≡ Err fault → ⊥
    clash fault e = cc

    from : (state : Option Fault) → writer_fault old ≡ state → writer_fault old ≡ None
    from None is = is
    from (Some fault) is = absurd (clash fault (faulty.stays fault is))

told-all : {S A : Type 0} (faults : S → ℕ) (old new : TraceWriter S) (result : Result A Fault) (done entries : List Entry) → IsFaulty faults old new result → OnOk result (done ≡ entries) → writer_fault new ≡ None → done ≡ entries
told-all faults old new (Ok a) done entries faulty all none = all
told-all faults old new (Err fault) done entries faulty all none = absurd (none-some fault (sym none ∙ faulty.fails fault refl))

-- Some of the entries were told, from the first one on, and all of them where the session did not fail.
traces-cut : (watch : Watch) (opened : List ℕ) (Sound : Type 0) (hands : ℕ → Option HandState) (named : List Named) (marks : List Marks) (told done entries : List Entry)
    → IsFront done entries → (Sound → done ≡ entries) → Traces watch opened Sound hands named marks (told ++ entries) → Traces watch opened Sound hands named marks (told ++ done)
traces-cut watch opened Sound hands named marks told done entries front all h =
    let parts : told ++ entries ≡ (told ++ done) ++ front.0 = ap (λ es. told ++ es) (sym front.1) ∙ sym (append_assoc told done front.0) in
    record {
      accounts = h.accounts;
      keeps = h.keeps;
      part = part-front watch opened h.accounts (told ++ done) front.0 (subst (TellsPart watch opened h.accounts) parts h.part);
      all = λ sound t row few. subst (λ es. TellsAll t (h.accounts t) (told ++ es)) (sym (all sound)) (h.all sound t row few);
    }

-- ---- a row that is closed

closed-by : {S : Type 0} (side : Sink S) (watch : Watch) (opened : List ℕ) (told : List Entry) (old new : Session S) (row : ℕ) (Told : List Record → ℕ → ℕ → Marks → Type 0) (result : Result (Unit {0}) Fault)
    → Detached
    (IsAdmittedAs watch.events watch.writes watch.config)
    (AreCounted watch.events watch.writes watch.config)
    Told
    (λ records. Writes side.tells_taken side.taken watch.events (entries_of watch.events watch.config.stackwalk records) old new result)
    watch.events row old new
    → IsFaulty side.write_faults (writer_of old) (writer_of new) result
    → IsTracing side watch opened told old → (more : List Entry) × IsTracing side watch opened (told ++ more) new
closed-by side watch opened told old new row Told result d faulty h =
    let entries = entries_of watch.events watch.config.stackwalk d.records in
    let w = d.writes watch.before watch.info told h.telling in
    let start = traces-same watch opened (fault_of old ≡ None) (fault_of new ≡ None) (hand_on old) (hand_on old) (rest_of old).named (rest_of old).named (rest_of old).marks (rest_of old).marks told
    (sound-before side.write_faults (writer_of old) (writer_of new) result faulty) (λ r. refl) refl refl h.traces in
    let all = closed-traces watch opened (fault_of new ≡ None) (hand_on old) (hand_on new) (rest_of old).named (rest_of old).marks told row d.last d.hand d.records d.marks d.was d.batched d.marked d.tested_marks d.hands start in
    let some = traces-cut watch opened (fault_of new ≡ None) (hand_on new) _ _ told w.done entries w.front (told-all side.write_faults (writer_of old) (writer_of new) result w.done entries faulty w.all) all in (
      w.done,
      record {
        config_is = ap (λ (r : Rest). r.config) d.rest ∙ h.config_is;
        telling = w.telling;
        traces = traces-same watch opened (fault_of new ≡ None) (fault_of new ≡ None) (hand_on new) (hand_on new) _ (rest_of new).named _ (rest_of new).marks (told ++ w.done)
            (λ sound. sound) (λ r. refl) (ap (λ (r : Rest). r.named) d.rest) (ap (λ (r : Rest). r.marks) d.rest) some;
      },
    )

-- The definitions are the program's, and the configuration is the session's own.
pub tracing-closed : {S : Type 0} (side : Sink S) (watch : Watch) (old new : Session S)
    → ClosedIn side watch old new → TellsMore side watch old new
tracing-closed {S} side watch old new call opened told h =
    let Told : List Record → ℕ → ℕ → Marks → Type 0 = λ records last chunks marks. TellsStep (Closes call.row (rest_of old).seat.slot records last chunks marks) call.told_old call.told_new in
    let At : List EventDef → Config → Type 0 = λ those config.
    Detached
    (IsAdmittedAs watch.events watch.writes config)
    (AreCounted watch.events watch.writes config)
    Told
    (λ records. Writes side.tells_taken side.taken those (entries_of those config.stackwalk records) old new call.result)
    those call.row old new in
    closed-by side watch opened told old new call.row Told call.result
    (subst (λ those. At those watch.config) call.events (subst (At call.given) h.config_is call.detached)) call.faulty h

-- ---- a sweep

-- A point is told behind some records.
traces-behind : (watch : Watch) (opened : List ℕ) (Sound : Type 0) (hands : ℕ → Option HandState) (named : List Named) (marks : List Marks) (told : List Entry) (stamp count : ℕ)
    → Traces watch opened Sound hands named marks told
    → Traces watch opened Sound hands (named_behind count named) marks (told ++ point_after count stamp named)
traces-behind watch opened Sound hands named marks told stamp zero h = subst (Traces watch opened Sound hands named marks) (sym (append-nil told)) h
traces-behind watch opened Sound hands named marks told stamp (suc count) h = (pointed watch opened Sound hands named marks told stamp h).0

-- The same of a session that failed, which keeps the names as they were.
traces-failed : (watch : Watch) (opened : List ℕ) (Sound : Type 0) (hands : ℕ → Option HandState) (named : List Named) (marks : List Marks) (told : List Entry) (stamp count : ℕ) → (Sound → ⊥)
    → Traces watch opened Sound hands named marks told
    → Traces watch opened Sound hands named marks (told ++ point_after count stamp named)
traces-failed watch opened Sound hands named marks told stamp zero failed h = subst (Traces watch opened Sound hands named marks) (sym (append-nil told)) h
traces-failed watch opened Sound hands named marks told stamp (suc count) failed h =
    record {
      accounts = h.accounts;
      keeps = h.keeps;
      part = pointed-part watch opened Sound hands named marks told stamp h;
      all = λ sound. absurd (failed sound);
    }

-- The names are those behind the point, or as they were after a fault.
swept-named : {S : Type 0} (watch : Watch) (opened : List ℕ) (hands : ℕ → Option HandState) (names now : List Named) (marks : List Marks) (told : List Entry) (stamp count : ℕ) (faults : S → ℕ) (old new : TraceWriter S) (result : Result ℕ Fault)
    → IsFaulty faults old new result → OnOk result (now ≡ named_behind count names) → OnErr result (now ≡ names)
    → Traces watch opened (writer_fault new ≡ None) hands names marks told
    → Traces watch opened (writer_fault new ≡ None) hands now marks (told ++ point_after count stamp names)
swept-named watch opened hands names now marks told stamp count faults old new (Ok n) faulty named unnamed h =
    subst (λ ns. Traces watch opened (writer_fault new ≡ None) hands ns marks (told ++ point_after count stamp names)) (sym named)
    (traces-behind watch opened (writer_fault new ≡ None) hands names marks told stamp count h)
swept-named watch opened hands names now marks told stamp count faults old new (Err fault) faulty named unnamed h =
    subst (λ ns. Traces watch opened (writer_fault new ≡ None) hands ns marks (told ++ point_after count stamp names)) (sym unnamed)
    (traces-failed watch opened (writer_fault new ≡ None) hands names marks told stamp count (λ none. none-some fault (sym none ∙ faulty.fails fault refl)) h)

swept-by : {S : Type 0} (side : Sink S) (watch : Watch) (opened : List ℕ) (told : List Entry) (old new : Session S) (stamp count : ℕ) (Told : List Taking → Type 0) (result : Result ℕ Fault)
    → Swept
    (IsAdmittedAs watch.events watch.writes watch.config)
    Told
    (λ takings. Writes side.tells_taken side.taken watch.events (sweep_entries watch.events watch.config.stackwalk stamp (rest_of old).named takings) old new result)
    watch.events count old new result
    → IsFaulty side.write_faults (writer_of old) (writer_of new) result
    → IsTracing side watch opened told old → (more : List Entry) × IsTracing side watch opened (told ++ more) new
swept-by side watch opened told old new stamp count Told result s faulty h =
    let batches = entries_in watch.events watch.config.stackwalk s.takings in
    let names = named_after (rest_of old).named s.takings in
    let last = point_after (records_in s.takings) stamp names in
    let w = s.writes watch.before watch.info told h.telling in
    let start = traces-same watch opened (fault_of old ≡ None) (fault_of new ≡ None) (hand_on old) (hand_on old) (rest_of old).named (rest_of old).named (rest_of old).marks (rest_of old).marks told
    (sound-before side.write_faults (writer_of old) (writer_of new) result faulty) (λ r. refl) refl refl h.traces in
    let up : IsAscending (rows_of s.takings) = ascending-front (rows_of s.takings) s.front.0 (subst IsAscending (sym s.front.1) (rows-ascending (hand_on old) count)) in
    let taken_all = swept-traces watch opened (fault_of new ≡ None) (hand_on old) (rest_of old).named (rest_of old).marks told s.takings up s.were s.batched start in
    let behind = swept-named watch opened (hands_after (hand_on old) s.takings) names (rest_of new).named (rest_of old).marks (told ++ batches) stamp (records_in s.takings) side.write_faults (writer_of old) (writer_of new) result faulty s.named s.unnamed taken_all in
    let whole : Traces watch opened (fault_of new ≡ None) (hands_after (hand_on old) s.takings) (rest_of new).named (rest_of old).marks (told ++ (batches ++ last)) =
    subst (Traces watch opened (fault_of new ≡ None) (hands_after (hand_on old) s.takings) (rest_of new).named (rest_of old).marks) (append_assoc told batches last) behind in
    let some = traces-cut watch opened (fault_of new ≡ None) _ _ _ told w.done (batches ++ last) w.front (told-all side.write_faults (writer_of old) (writer_of new) result w.done (batches ++ last) faulty w.all) whole in (
      w.done,
      record {
        config_is = ap (λ (r : Rest). r.config) s.rest ∙ h.config_is;
        telling = w.telling;
        traces = traces-same watch opened (fault_of new ≡ None) (fault_of new ≡ None) (hands_after (hand_on old) s.takings) (hand_on new) (rest_of new).named (rest_of new).named (rest_of old).marks (rest_of new).marks (told ++ w.done)
            (λ sound. sound) s.hands refl (ap (λ (r : Rest). r.marks) s.rest) some;
      },
    )

-- The definitions are the program's, and the configuration is the session's own.
pub tracing-swept : {S : Type 0} (side : Sink S) (watch : Watch) (old new : Session S)
    → SweptIn side watch old new → TellsMore side watch old new
tracing-swept {S} side watch old new call opened told h =
    let Told : List Taking → Type 0 = λ takings. TellsTakings (rest_of old).seat.slot takings call.told_old call.told_new in
    let At : List EventDef → Config → Type 0 = λ those config.
    Swept
    (IsAdmittedAs watch.events watch.writes config)
    Told
    (λ takings. Writes side.tells_taken side.taken those (sweep_entries those config.stackwalk call.stamp (rest_of old).named takings) old new call.result)
    those call.count old new call.result in
    swept-by side watch opened told old new call.stamp call.count Told call.result
    (subst (λ those. At those watch.config) call.events (subst (At call.given) h.config_is call.swept)) call.faulty h
