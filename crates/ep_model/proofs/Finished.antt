-- What a finished session's entries tell is faithful.
use Rattle.std.proofs.Common.{◌≡◌, ℕ, ◌+◌, Bool, true, false, cond, inl, inr, List, ◌∷◌, ◌++◌, length, map, filter, Some, eqb, refl, ap, sym, ◌∙◌, arith, []}
use Rattle.std.specs.Prelude.{not, ◌&&◌, ◌||◌}
use Rattle.std.specs.List.{list_any, list_all, AllByRecursion}
use Rattle.std.proofs.lemmas.Bool.{and_from, or_left, or_right, not-false, eqb-true, eq-eqb, ne_eqb, cases_Bool, cases_eq, false_from_ne_true}
use Rattle.std.proofs.lemmas.List.{append-nil, length_push}
use Rattle.ep_defs.specs.declared.event.EventDef.{EventDef}
use Rattle.ep_defs.specs.Entry.{EventEntry, PointEntry, Entry, Event, Point}
use Rattle.ep_defs.specs.Gaps.{Known, gaps, sightings}
use Rattle.ep_model.specs.declared.step.Step.TheVariants as step
use Rattle.ep_model.specs.Chunks.{is_refused, refused, written}
use Rattle.ep_model.specs.Entries.{has_stacks, awaits_point, is_named, entries, pending, told_number, point_entry}
use Rattle.ep_model.specs.Faithful.{AreFaithful, kept, is_kept, is_among, events_of, last_sighting, share_of, shares_of}
use Rattle.ep_model.specs.History.{Past, config_of, is_present, is_finished, opened, insert_ascending, is_open, opened_at, closed_at, writes_of, admitted, shows}
use Rattle.ep_model.specs.Lawful.{IsLawful, objections, was_opened}
use Rattle.ep_model.proofs.Admitted.{contents-long}
use Rattle.ep_model.proofs.Numbers.{AreOwn}
use Rattle.ep_model.proofs.Lists.{any_inserted, all_more, each-append}
use Rattle.ep_model.proofs.Objections.{none_there}
use Rattle.ep_model.proofs.Sessions.{open_opened, open_present, finished_absent}
use Rattle.ep_model.proofs.Tally.{pending-own}
use Rattle.ep_model.proofs.Told.{tally}

-- ---- no other thread

abbrev pub is_one_of : List ℕ → ℕ → Bool
is_one_of threads thread = list_any (λ t. eqb t thread) threads

-- An event of one of these threads, or a point that names only such.
abbrev speaks_of : List ℕ → Entry → Bool
speaks_of threads (Event event) = is_one_of threads event.thread
speaks_of threads (Point point) = list_all (λ (named : ℕ × ℕ). is_one_of threads named.0) point.threads

abbrev AreAmong : List ℕ → List Entry → Type 0
AreAmong threads lines = AllByRecursion (λ line. speaks_of threads line ≡ true) lines

one_more : (thread : ℕ) (threads : List ℕ) (t : ℕ) → is_one_of threads t ≡ true → is_one_of (insert_ascending thread threads) t ≡ true
one_more thread threads t h = any_inserted (λ x. eqb x t) thread threads ∙ or_right (eqb thread t) _ h

among-inserted : (thread : ℕ) (threads : List ℕ) (lines : List Entry) → AreAmong threads lines → AreAmong (insert_ascending thread threads) lines
among-inserted thread threads [] among = tt
among-inserted thread threads (Event event ∷ lines) among =
    (one_more thread threads event.thread among.0, among-inserted thread threads lines among.1)
among-inserted thread threads (Point point ∷ lines) among =
    (all_more (λ (named : ℕ × ℕ). is_one_of threads named.0) (λ (named : ℕ × ℕ). is_one_of (insert_ascending thread threads) named.0) (λ named. one_more thread threads named.0) point.threads among.0, among-inserted thread threads lines among.1)

among-own : (thread : ℕ) (threads : List ℕ) (events : List EventEntry) → list_any (λ t. eqb t thread) threads ≡ true → AreOwn thread events → AreAmong threads (map Event events)
among-own thread threads [] there own = tt
among-own thread threads (event ∷ events) there own =
    (ap (λ n. list_any (λ t. eqb t n) threads) own.0 ∙ there, among-own thread threads events there own.1)

-- Those that are kept of some threads are among them.
pub all_filtered : (keep : ℕ → Bool) (told : ℕ → ℕ) (all threads : List ℕ) → ((t : ℕ) → is_one_of threads t ≡ true → is_one_of all t ≡ true) → list_all (λ (named : ℕ × ℕ). is_one_of all named.0) (map (λ t. (t, told t)) (filter keep threads)) ≡ true
all_filtered keep told all [] within = refl
all_filtered keep told all (t ∷ threads) within =
    let rest = all_filtered keep told all threads (λ x one. within x (or_right (eqb t x) _ one)) in
    elim (cases_Bool (keep t)) [
      | inl kept ↦ rw kept (and_from (is_one_of all t) _ (within t (or_left (eqb t t) _ (eq-eqb t t refl))) rest)
      | inr out ↦ rw out rest
    ]

among-point : (session stamp : ℕ) (past : Past) (lines : List Entry) (b : Bool) → AreAmong (opened session past) lines → AreAmong (opened session past) (cond b (lines ++ Point (point_entry session stamp past) ∷ []) lines)
among-point session stamp past lines true among =
    each-append (λ line. speaks_of (opened session past) line ≡ true) lines (Point (point_entry session stamp past) ∷ []) among
    (all_filtered (λ t. is_named session t past) (λ t. told_number session t past) (opened session past) (opened session past) (λ t one. one), tt)
among-point session stamp past lines false among = among

-- What is taken from a thread where the session is open is of an opened thread.
among-taken : (events : List EventDef) (session s t : ℕ) (past : Past) → is_open s t past ≡ true → AreAmong (opened session past) (entries events session past) → AreAmong (opened session past) (cond (eqb s session) (entries events session past ++ map Event (pending events session t past)) (entries events session past))
among-taken events session s t past stands_open among =
    elim (cases_eq s session) [
      | inl same ↦
          let here : is_open session t past ≡ true = rw same at stands_open in
          rw (eq-eqb s session same)
          (each-append (λ line. speaks_of (opened session past) line ≡ true) (entries events session past) _ among
          (among-own t (opened session past) (pending events session t past) (open_opened session t past here) (pending-own events session t past)))
      | inr other ↦ rw (ne_eqb s session other) among
    ]

entries-among : (events : List EventDef) (session : ℕ) (past : Past) → IsLawful events past → AreAmong (opened session past) (entries events session past)
entries-among events session [] lawful = tt
entries-among events session (step.Open s t ∷ past) lawful =
    let before = entries-among events session past lawful.0 in
    elim (eqb s session) as (λ b. AreAmong (cond b (insert_ascending t (opened session past)) (opened session past)) (entries events session past))
    [ true ↦ among-inserted t (opened session past) (entries events session past) before | false ↦ before ]
entries-among events session (step.Steal s t ∷ past) lawful =
    let inside = not-false (is_open s t past) (none_there (objections events past (step.Steal s t)) lawful.1).1.1.0 in
    among-taken events session s t past inside (entries-among events session past lawful.0)
entries-among events session (step.Close s t ∷ past) lawful =
    let inside = not-false (is_open s t past) (none_there (objections events past (step.Close s t)) lawful.1).1.1.0 in
    among-taken events session s t past inside (entries-among events session past lawful.0)
entries-among events session (step.Point s stamp ∷ past) lawful =
    among-point session stamp past (entries events session past) (eqb s session) (entries-among events session past lawful.0)
entries-among events session (step.Finish s stamp ∷ past) lawful =
    among-point session stamp past (entries events session past) (eqb s session) (entries-among events session past lawful.0)
entries-among events session (_ ∷ past) lawful = entries-among events session past lawful.0

-- ---- the last point

-- A finished session's entries end with a point.
abbrev EndsWithPoint : List EventDef → ℕ → Past → Type 0
EndsWithPoint events session past =
    (front : List Entry) × (point : PointEntry) × (entries events session past ≡ front ++ Point point ∷ [])

-- A session that is present is not one that is finished.
other_session : (events : List EventDef) (session s : ℕ) (past : Past) → IsLawful events past → is_finished session past ≡ true → not (is_present s past) ≡ false → eqb s session ≡ false
other_session events session s past lawful done there =
    false_from_ne_true (eqb s session) (λ same.
    let present_here : is_present session past ≡ true = rw (eqb-true s session same) at (not-false (is_present s past) there) in
    let absent = finished_absent events session past lawful done in
    cc)

ends-with_point : (events : List EventDef) (session : ℕ) (past : Past) → IsLawful events past → is_finished session past ≡ true → EndsWithPoint events session past
ends-with_point events session [] lawful done = cc
ends-with_point events session (step.Finish s stamp ∷ past) lawful done =
    elim (cases_Bool (eqb s session)) [
      | inl same ↦ (entries events session past, point_entry session stamp past, rw same refl)
      | inr other ↦ rw other (ends-with_point events session past lawful.0 (rw other at done))
    ]
ends-with_point events session (step.Steal s t ∷ past) lawful done =
    let other = other_session events session s past lawful.0 done (none_there (objections events past (step.Steal s t)) lawful.1).0 in
    rw other (ends-with_point events session past lawful.0 done)
ends-with_point events session (step.Close s t ∷ past) lawful done =
    let other = other_session events session s past lawful.0 done (none_there (objections events past (step.Close s t)) lawful.1).0 in
    rw other (ends-with_point events session past lawful.0 done)
ends-with_point events session (step.Point s stamp ∷ past) lawful done =
    let other = other_session events session s past lawful.0 done (none_there (objections events past (step.Point s stamp)) lawful.1).0 in
    rw other (ends-with_point events session past lawful.0 done)
ends-with_point events session (_ ∷ past) lawful done = ends-with_point events session past lawful.0 done

-- After its end no thread waits for a point.
finished-named : (events : List EventDef) (session thread : ℕ) (past : Past) → IsLawful events past → is_finished session past ≡ true → awaits_point session thread past ≡ false
finished-named events session thread [] lawful done = refl
finished-named events session thread (step.Finish s stamp ∷ past) lawful done =
    elim (cases_Bool (eqb s session)) [ inl same ↦ rw same refl | inr other ↦ rw other (finished-named events session thread past lawful.0 (rw other at done)) ]
finished-named events session thread (step.Close s t ∷ past) lawful done =
    let other = other_session events session s past lawful.0 done (none_there (objections events past (step.Close s t)) lawful.1).0 in
    rw other (finished-named events session thread past lawful.0 done)
finished-named events session thread (step.Point s stamp ∷ past) lawful done =
    let other = other_session events session s past lawful.0 done (none_there (objections events past (step.Point s stamp)) lawful.1).0 in
    rw other (finished-named events session thread past lawful.0 done)
finished-named events session thread (_ ∷ past) lawful done = finished-named events session thread past lawful.0 done

-- ---- a finished session on a thread

-- A finished session has told all of a thread but what was refused.
record HasTold (events : List EventDef) (session thread : ℕ) (past : Past) : Type 0 where
  told_all : events_of thread (entries events session past) ≡ kept (share_of events session past thread)
  none_missing : gaps thread (entries events session past) ≡ length (refused session thread past)
  told_last : last_sighting thread (entries events session past) ≡ Some (Known (length (share_of events session past thread).admitted))
  shown : shows session thread past ≡ length (admitted events session thread past)

has_told : (events : List EventDef) (session thread : ℕ) (past : Past) → IsLawful events past → is_finished session past ≡ true → was_opened session thread past ≡ true → HasTold events session thread past
has_told events session thread past lawful done was =
    let h = tally events session thread past lawful in
    let lines = entries events session past in
    let absent = finished_absent events session past lawful done in
    let shut = false_from_ne_true (is_open session thread past) (λ e. let there = open_present events session thread past lawful e in cc) in
    let nothing = h.shut shut in
    let named = h.named was shut (finished-named events session thread past lawful done) in
    let whole = rw (nothing.0, append-nil h.before) at h.whole in
    let tells = rw (nothing.1, append-nil (events_of thread lines)) at h.tells in
    let runs : told_number session thread past + h.left ≡ shows session thread past = rw nothing.1 at h.runs in
    let count : shows session thread past + 0 ≡ length (admitted events session thread past) = rw nothing.0 at h.counted in
    let long = contents-long events (has_stacks session past) (config_of session past) (opened_at session thread past) (closed_at session thread past) (writes_of thread past) in
    let number : told_number session thread past ≡ length (share_of events session past thread).admitted = omega (arith, nothing.2, count, long) in
    let steady = rw (append-nil (sightings thread lines)) at (h.steady []) in
    record {
      told_all = sym tells ∙ sym (ap (λ contents. filter (is_kept (refused session thread past)) contents) whole);
      none_missing = omega (arith, steady, h.missing_are, h.told_is, named.0, runs, nothing.2);
      told_last = named.1 ∙ ap (λ n. Some (Known n)) number;
      shown = omega (arith, count);
    }

-- ---- all threads

-- What holds of each member holds of all.
all_members : {B : Type 0} (P : B → Type 0) (f : ℕ → B) (xs : List ℕ) → ((x : ℕ) → is_one_of xs x ≡ true → P (f x)) → AllByRecursion P (map f xs)
all_members P f [] each = tt
all_members P f (x ∷ xs) each = (each x (or_left (eqb x x) _ (eq-eqb x x refl)), all_members P f xs (λ y one. each y (or_right (eqb x y) _ one)))

share_any : (events : List EventDef) (session thread : ℕ) (past : Past) (threads : List ℕ) → list_any (λ share. eqb share.thread thread) (map (λ t. share_of events session past t) threads) ≡ is_one_of threads thread
share_any events session thread past [] = refl
share_any events session thread past (t ∷ threads) = ap (λ b. eqb t thread || b) (share_any events session thread past threads)

alone-among : (events : List EventDef) (session : ℕ) (past : Past) (lines : List Entry) → AreAmong (opened session past) lines → AllByRecursion (λ line. is_among (shares_of events session past) line ≡ true) lines
alone-among events session past [] among = tt
alone-among events session past (Event event ∷ lines) among =
    (share_any events session event.thread past (opened session past) ∙ among.0, alone-among events session past lines among.1)
alone-among events session past (Point point ∷ lines) among =
    (all_more (λ (named : ℕ × ℕ). is_one_of (opened session past) named.0) (λ (named : ℕ × ℕ). list_any (λ share. eqb share.thread named.0) (shares_of events session past)) (λ named one. share_any events session named.0 past (opened session past) ∙ one) point.threads among.0, alone-among events session past lines among.1)

-- What a finished session's entries tell is faithful.
pub finished-faithful : (events : List EventDef) (session : ℕ) (past : Past) → IsLawful events past → is_finished session past ≡ true → AreFaithful (shares_of events session past) (entries events session past)
finished-faithful events session past lawful done =
    let lines = entries events session past in
    let share = λ (t : ℕ). share_of events session past t in
    let each = λ (t : ℕ) (one : was_opened session t past ≡ true). has_told events session t past lawful done one in
    let end = ends-with_point events session past lawful done in
    record {
      complete = all_members (λ s. events_of s.thread lines ≡ kept s) share (opened session past) (λ t one. (each t one).told_all);
      alone = alone-among events session past lines (entries-among events session past lawful);
      missing = all_members (λ s. gaps s.thread lines ≡ length s.refused) share (opened session past) (λ t one. (each t one).none_missing);
      told = all_members (λ s. last_sighting s.thread lines ≡ Some (Known (length s.admitted))) share (opened session past) (λ t one. (each t one).told_last);
      front = end.0;
      last = end.1;
      ended = end.2;
    }

-- ---- marks

-- Each Show is written or refused.
pub written-refused : (session thread : ℕ) (past : Past) → written session thread past + length (refused session thread past) ≡ shows session thread past
written-refused session thread [] = refl
written-refused session thread (step.Show t s ∷ past) =
    let before = written-refused session thread past in
    let one = length_push (refused session thread past) (shows session thread past + 1) in
    elim (cases_Bool (eqb s session && eqb t thread)) [
      | inl own ↦
          rw own
          (elim (cases_Bool (is_refused session thread past)) [ inl out ↦ rw out (omega arith) | inr in_room ↦ rw in_room (omega arith) ])
      | inr other ↦ rw other (omega arith)
    ]
written-refused session thread (_ ∷ past) = written-refused session thread past

-- What a finished session's marks count of a thread are its admitted writes.
pub finished-counted : (events : List EventDef) (session thread : ℕ) (past : Past) → IsLawful events past → is_finished session past ≡ true → was_opened session thread past ≡ true → written session thread past + length (refused session thread past) ≡ length (admitted events session thread past)
finished-counted events session thread past lawful done was = written-refused session thread past ∙ (has_told events session thread past lawful done was).shown
