-- What is known of a session after a lawful past.
use Rattle.std.proofs.Common.{◌≡◌, ℕ, ◌≤◌, Bool, true, false, cond, inl, inr, List, ◌∷◌, length, None, eqb, leb, refl, sym, ◌∙◌, arith, subst, []}
use Rattle.std.specs.Prelude.{not, ◌&&◌, ◌||◌, nat_lt, ◌==◌}
use Rattle.std.specs.List.{list_any}
use Rattle.std.proofs.lemmas.Bool.{and_parts, or_cases, or_parts, or_left, or_right, not-false, not-true, eqb-true, eq-eqb, ne_eqb, leb-false, le-leb, cases_Bool, cases_eq, false_from_ne_true, true≢false}
use Rattle.std.proofs.lemmas.List.{length_push}
use Rattle.ep_defs.specs.declared.limits.TheConstants.{SCHEDULE_WRITES, SESSION_THREADS}
use Rattle.ep_defs.specs.declared.event.EventDef.{EventDef}
use Rattle.ep_defs.specs.declared.session.Config.{Config}
use Rattle.ep_model.specs.declared.step.Step.TheVariants as step
use Rattle.ep_model.specs.Fold.{budget_of, no_budget}
use Rattle.ep_model.specs.History.{Past, accepted, is_present, is_finished, opened, insert_ascending, is_open, opened_at, writes_of}
use Rattle.ep_model.specs.Lawful.{IsLawful, objections, objection_to, was_opened, is_next_session, is_open_somewhere, begins}
use Rattle.ep_model.proofs.Lists.{has, or_more, any_more, any_of, above_none, any_inserted, length_inserted}
use Rattle.ep_model.proofs.Objections.{none_there, needs_present}

-- ---- accepted sessions

-- The session or a later one was accepted.
abbrev pub was_reached : ℕ → Past → Bool
was_reached session past = list_any (λ s. leb session s) (accepted past)

-- A session that is present was accepted.
pub present_accepted : (session : ℕ) (past : Past) → is_present session past ≡ true → has session (accepted past) ≡ true
present_accepted session [] h = h
present_accepted session (step.Accept s config ∷ past) h = or_more (eqb s session) (is_present session past) _ (present_accepted session past) h
present_accepted session (step.Finish s stamp ∷ past) h = present_accepted session past (and_parts (not (eqb s session)) (is_present session past) h).1
present_accepted session (_ ∷ past) h = present_accepted session past h

-- So it was reached.
pub present_reached : (session : ℕ) (past : Past) → is_present session past ≡ true → was_reached session past ≡ true
present_reached session past h =
    any_more (λ s. eqb s session) (λ s. leb session s) (λ s e. let same = eqb-true s session e in le-leb session s (omega arith)) (accepted past) (present_accepted session past h)

-- ---- opened sessions

-- What is open on a thread was opened there, also after one more Open.
pub opens_more : (thread t : ℕ) (ts : List ℕ) (same_session same_thread still : Bool) → eqb t thread ≡ same_thread → (still ≡ true → list_any (λ x. eqb x thread) ts ≡ true) → ((same_session && same_thread) || still) ≡ true → list_any (λ x. eqb x thread) (cond same_session (insert_ascending t ts) ts) ≡ true
opens_more thread t ts false same_thread still e more h = more h
opens_more thread t ts true true still e more h = any_inserted (λ x. eqb x thread) t ts ∙ or_left (eqb t thread) _ e
opens_more thread t ts true false still e more h = any_inserted (λ x. eqb x thread) t ts ∙ or_right (eqb t thread) _ (more h)

-- A session that is open on a thread was opened there.
pub open_opened : (session thread : ℕ) (past : Past) → is_open session thread past ≡ true → was_opened session thread past ≡ true
open_opened session thread [] h = h
open_opened session thread (step.Open s t ∷ past) h =
    opens_more thread t (opened session past) (eqb s session) (eqb t thread) (is_open session thread past) refl (open_opened session thread past) h
open_opened session thread (step.Close s t ∷ past) h =
    open_opened session thread past (and_parts (not (eqb s session && eqb t thread)) (is_open session thread past) h).1
open_opened session thread (_ ∷ past) h = open_opened session thread past h

-- Where it is open on a thread, it is open somewhere.
pub open_somewhere : (session thread : ℕ) (past : Past) → is_open session thread past ≡ true → is_open_somewhere session past ≡ true
open_somewhere session thread past is = any_of (λ t. is_open session t past) thread (opened session past) is (open_opened session thread past is)

-- A session is present where it is open.
pub open_present : (events : List EventDef) (session thread : ℕ) (past : Past) → IsLawful events past → is_open session thread past ≡ true → is_present session past ≡ true
open_present events session thread [] lawful h = h
open_present events session thread (step.Accept s config ∷ past) lawful h =
    or_right (eqb s session) (is_present session past) (open_present events session thread past lawful.0 h)
open_present events session thread (step.Open s t ∷ past) lawful h =
    elim (or_cases (eqb s session && eqb t thread) (is_open session thread past) h) [
      | inl both ↦
          let same = eqb-true s session (and_parts (eqb s session) (eqb t thread) both).0 in
          let there = not-false (is_present s past) (none_there (objections events past (step.Open s t)) lawful.1).0 in
          rw same at there
      | inr before ↦ open_present events session thread past lawful.0 before
    ]
open_present events session thread (step.Close s t ∷ past) lawful h =
    open_present events session thread past lawful.0 (and_parts (not (eqb s session && eqb t thread)) (is_open session thread past) h).1
open_present events session thread (step.Finish s stamp ∷ past) lawful h =
    elim (cases_eq s session) [
      | inl same ↦
          let nowhere = (none_there (objections events past (step.Finish s stamp)) lawful.1).1.0 in
          let somewhere = open_somewhere session thread past h in
          let nowhere_here : is_open_somewhere session past ≡ false = rw (← same) nowhere in
          cc
      | inr other ↦ rw (ne_eqb s session other) (open_present events session thread past lawful.0 h)
    ]
open_present events session thread (step.Enter t ∷ past) lawful h = open_present events session thread past lawful.0 h
open_present events session thread (step.Leave t ∷ past) lawful h = open_present events session thread past lawful.0 h
open_present events session thread (step.Begin t stamp write ∷ past) lawful h = open_present events session thread past lawful.0 h
open_present events session thread (step.Show t s ∷ past) lawful h = open_present events session thread past lawful.0 h
open_present events session thread (step.End t ∷ past) lawful h = open_present events session thread past lawful.0 h
open_present events session thread (step.Steal s t ∷ past) lawful h = open_present events session thread past lawful.0 h
open_present events session thread (step.Give s ∷ past) lawful h = open_present events session thread past lawful.0 h
open_present events session thread (step.Point s stamp ∷ past) lawful h = open_present events session thread past lawful.0 h

-- ---- finished sessions

-- A session that finished was reached.
pub finished_reached : (events : List EventDef) (session : ℕ) (past : Past) → IsLawful events past → is_finished session past ≡ true → was_reached session past ≡ true
finished_reached events session [] lawful h = h
finished_reached events session (step.Accept s config ∷ past) lawful h = or_right (leb session s) _ (finished_reached events session past lawful.0 h)
finished_reached events session (step.Finish s stamp ∷ past) lawful h =
    elim (or_cases (eqb s session) (is_finished session past) h) [
      | inl same ↦
          let there = not-false (is_present s past) (none_there (objections events past (step.Finish s stamp)) lawful.1).0 in
          present_reached session past (rw (← eqb-true s session same) there)
      | inr before ↦ finished_reached events session past lawful.0 before
    ]
finished_reached events session (_ ∷ past) lawful h = finished_reached events session past lawful.0 h

-- A session that is accepted was not reached before.
pub accept_unreached : (events : List EventDef) (past : Past) (s : ℕ) (config : Config) → objection_to events past (step.Accept s config) ≡ None → was_reached s past ≡ false
accept_unreached events past s config h =
    let next = not-false (is_next_session s past) (none_there (objections events past (step.Accept s config)) h).0 in
    not-true (was_reached s past) (and_parts (nat_lt 0 s) (not (was_reached s past)) next).1

-- Nor accepted.
pub accept_new : (events : List EventDef) (past : Past) (s : ℕ) (config : Config) → objection_to events past (step.Accept s config) ≡ None → has s (accepted past) ≡ false
accept_new events past s config h = above_none s (accepted past) (accept_unreached events past s config h)

-- A session that finished is not present.
pub finished_absent : (events : List EventDef) (session : ℕ) (past : Past) → IsLawful events past → is_finished session past ≡ true → is_present session past ≡ false
finished_absent events session [] lawful h = refl
finished_absent events session (step.Accept s config ∷ past) lawful h =
    elim (cases_eq s session) [
      | inl same ↦
          let unreached : was_reached session past ≡ false = rw (← same) (accept_unreached events past s config lawful.1) in
          let reached = finished_reached events session past lawful.0 h in
          cc
      | inr other ↦ rw (ne_eqb s session other) (finished_absent events session past lawful.0 h)
    ]
finished_absent events session (step.Finish s stamp ∷ past) lawful h =
    elim (cases_Bool (eqb s session)) [
      | inl same ↦ rw same refl
      | inr other ↦ rw other (finished_absent events session past lawful.0 (rw other at h))
    ]
finished_absent events session (_ ∷ past) lawful h = finished_absent events session past lawful.0 h

-- ---- a session that was never accepted

-- It is not present.
pub not_accepted : (session : ℕ) (past : Past) → has session (accepted past) ≡ false → is_present session past ≡ false
not_accepted session past none = false_from_ne_true (is_present session past) (λ there. true≢false (sym (present_accepted session past there) ∙ none))

-- A session that is present is no other that is not.
pub none_absent : (s session : ℕ) (past : Past) → is_present session past ≡ false → is_present s past ≡ true → (s == session) ≡ false
none_absent s session past absent there =
    false_from_ne_true (s == session) (λ same. true≢false (sym (subst (λ n. is_present n past ≡ true) (eqb-true s session same) there) ∙ absent))

-- A session that is present is no other that was not accepted.
pub absent_apart : (s session : ℕ) (past : Past) → is_present s past ≡ true → has session (accepted past) ≡ false → (s == session) ≡ false
absent_apart s session past there never = none_absent s session past (not_accepted session past never) there

-- It has opened nothing, and has nothing of its budget.
pub record Untouched (session : ℕ) (past : Past) : Type 0 where
  pub nowhere : opened session past ≡ []
  pub nothing : budget_of session past ≡ no_budget

pub untouched : (events : List EventDef) (session : ℕ) (past : Past) → IsLawful events past → has session (accepted past) ≡ false → Untouched session past
untouched events session [] lawful none = record { nowhere = refl; nothing = refl }
untouched events session (step.Accept s config ∷ past) lawful none =
    let h = untouched events session past lawful.0 (or_parts (s == session) (has session (accepted past)) none).1 in
    record { nowhere = h.nowhere; nothing = h.nothing }
untouched events session (step.Open s t ∷ past) lawful none =
    let h = untouched events session past lawful.0 none in
    let other = absent_apart s session past (needs_present events past (step.Open s t) lawful.1) none in
    record { nowhere = rw other h.nowhere; nothing = h.nothing }
untouched events session (step.Show t s ∷ past) lawful none =
    let h = untouched events session past lawful.0 none in
    let other = absent_apart s session past (needs_present events past (step.Show t s) lawful.1) none in
    record { nowhere = h.nowhere; nothing = rw other h.nothing }
untouched events session (step.Steal s t ∷ past) lawful none =
    let h = untouched events session past lawful.0 none in
    let other = absent_apart s session past (needs_present events past (step.Steal s t) lawful.1) none in
    record { nowhere = h.nowhere; nothing = rw other h.nothing }
untouched events session (step.Give s ∷ past) lawful none =
    let h = untouched events session past lawful.0 none in
    let other = absent_apart s session past (needs_present events past (step.Give s) lawful.1) none in
    record { nowhere = h.nowhere; nothing = rw other h.nothing }
untouched events session (step.Close s t ∷ past) lawful none =
    let h = untouched events session past lawful.0 none in
    let other = absent_apart s session past (needs_present events past (step.Close s t) lawful.1) none in
    record { nowhere = h.nowhere; nothing = rw other h.nothing }
untouched events session (step.Enter t ∷ past) lawful none = let h = untouched events session past lawful.0 none in record { nowhere = h.nowhere; nothing = h.nothing }
untouched events session (step.Leave t ∷ past) lawful none = let h = untouched events session past lawful.0 none in record { nowhere = h.nowhere; nothing = h.nothing }
untouched events session (step.Begin t stamp write ∷ past) lawful none = let h = untouched events session past lawful.0 none in record { nowhere = h.nowhere; nothing = h.nothing }
untouched events session (step.End t ∷ past) lawful none = let h = untouched events session past lawful.0 none in record { nowhere = h.nowhere; nothing = h.nothing }
untouched events session (step.Point s stamp ∷ past) lawful none = let h = untouched events session past lawful.0 none in record { nowhere = h.nowhere; nothing = h.nothing }
untouched events session (step.Finish s stamp ∷ past) lawful none = let h = untouched events session past lawful.0 none in record { nowhere = h.nowhere; nothing = h.nothing }

-- ---- threads that a session was not opened on

-- It has no opening there.
pub unopened_none : (session thread : ℕ) (past : Past) → was_opened session thread past ≡ false → opened_at session thread past ≡ None
unopened_none session thread [] h = refl
unopened_none session thread (step.Open s t ∷ past) h =
    elim (cases_Bool (eqb s session)) [
      | inl same ↦
          let parts = or_parts (eqb t thread) (was_opened session thread past) (sym (any_inserted (λ x. eqb x thread) t (opened session past)) ∙ (rw same at h)) in
          rw (same, parts.0) (unopened_none session thread past parts.1)
      | inr other ↦ rw other (unopened_none session thread past (rw other at h))
    ]
unopened_none session thread (_ ∷ past) h = unopened_none session thread past h

-- A session that was not reached was opened on no thread.
pub unreached_none : (events : List EventDef) (session thread : ℕ) (past : Past) → IsLawful events past → was_reached session past ≡ false → opened_at session thread past ≡ None
unreached_none events session thread [] lawful h = refl
unreached_none events session thread (step.Accept s config ∷ past) lawful h = unreached_none events session thread past lawful.0 (or_parts (leb session s) (was_reached session past) h).1
unreached_none events session thread (step.Open s t ∷ past) lawful h =
    elim (cases_eq s session) [
      | inl same ↦
          let there = not-false (is_present s past) (none_there (objections events past (step.Open s t)) lawful.1).0 in
          let reached = present_reached session past (rw (← same) there) in
          cc
      | inr other ↦ rw (ne_eqb s session other) (unreached_none events session thread past lawful.0 h)
    ]
unreached_none events session thread (_ ∷ past) lawful h = unreached_none events session thread past lawful.0 h

-- ---- counts

-- There are no more writes than a schedule may have.
pub begins_few : (events : List EventDef) (past : Past) → IsLawful events past → begins past ≤ SCHEDULE_WRITES
begins_few events [] lawful = omega arith
begins_few events (step.Begin t stamp write ∷ past) lawful =
    let few = (none_there (objections events past (step.Begin t stamp write)) lawful.1).1.1.1.1.0 in
    let below = leb-false SCHEDULE_WRITES (begins past) few in omega arith
begins_few events (_ ∷ past) lawful = begins_few events past lawful.0

-- A thread's writes are among all that were begun.
pub writes_begun : (thread : ℕ) (past : Past) → length (writes_of thread past) ≤ begins past
writes_begun thread [] = omega arith
writes_begun thread (step.Begin t stamp write ∷ past) =
    let before = writes_begun thread past in
    let one = length_push (writes_of thread past) write in
    elim (cases_Bool (eqb t thread)) [ inl same ↦ rw same (omega arith) | inr other ↦ rw other (omega arith) ]
writes_begun thread (_ ∷ past) = writes_begun thread past

-- A session is opened on no more threads than its limit.
pub opened_few : (events : List EventDef) (session : ℕ) (past : Past) → IsLawful events past → length (opened session past) ≤ SESSION_THREADS
opened_few events session [] lawful = omega arith
opened_few events session (step.Open s t ∷ past) lawful =
    elim (cases_eq s session) [
      | inl same ↦
          let few = (none_there (objections events past (step.Open s t)) lawful.1).1.1.1.0 in
          let few_here : leb SESSION_THREADS (length (opened session past)) ≡ false = rw same at few in
          let below = leb-false SESSION_THREADS (length (opened session past)) few_here in
          rw (eq-eqb s session same) (omega (arith, length_inserted t (opened session past), below))
      | inr other ↦ rw (ne_eqb s session other) (opened_few events session past lawful.0)
    ]
opened_few events session (_ ∷ past) lawful = opened_few events session past lawful.0
