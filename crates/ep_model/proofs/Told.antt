-- The tally of a session on a thread holds after each lawful past.
use Rattle.std.proofs.Common.{◌≡◌, ℕ, ◌^◌, ◌<◌, Bool, true, false, inl, inr, List, ◌∷◌, ◌++◌, map, filter, eqb, refl, arith, zero-add, []}
use Rattle.std.specs.Prelude.{◌&&◌}
use Rattle.std.specs.List.{list_any}
use Rattle.std.proofs.lemmas.Bool.{and_parts, or_cases, or_parts, or_right, not-false, eqb-true, eq-eqb, ne_eqb, cases_Bool, cases_eq, false_from_ne_true}
use Rattle.std.proofs.lemmas.List.{append-nil}
use Rattle.ep_defs.specs.declared.event.EventDef.{EventDef}
use Rattle.ep_defs.specs.Entry.{Event, Point}
use Rattle.ep_model.specs.declared.step.Step.TheVariants as step
use Rattle.ep_model.specs.Chunks.{is_refused, refused}
use Rattle.ep_model.specs.Entries.{has_stacks, awaits_point, is_named, entries, pending, told_number, point_entry}
use Rattle.ep_model.specs.History.{Past, Begun, config_of, accepted, is_present, opened, is_open, opened_at, closed_at, writes_of, in_write, last_begun, admits_write, admitted, is_due, shows}
use Rattle.ep_model.specs.Lawful.{IsLawful, objections, has_due, was_opened}
use Rattle.ep_model.proofs.Admitted.{stands, unopened-shut, never-closed, never-open, open-not_closed, begin-admitted, open-admitted, admitted-few}
use Rattle.ep_model.proofs.Numbers.{knowns-none, knowns-some, knowns-last, runs-up}
use Rattle.ep_model.proofs.Lists.{any_inserted, any_kept}
use Rattle.ep_model.proofs.Objections.{none_there}
use Rattle.ep_model.proofs.Sessions.{opens_more, open_opened, present_accepted, open_present, accept_unreached, unreached_none, unopened_none, begins_few, writes_begun, was_reached}
use Rattle.ep_model.proofs.Tally.{Tally, empty_tally, stacks_tally, open_tally, begin_tally, write_tally, refuse_tally, end_tally, take_tally, more_tally, point_tally, pending-own, events_of-other, sightings-other}

abbrev pub TallyOn : List EventDef → ℕ → ℕ → Past → Type 0
TallyOn events session thread past =
    Tally events (has_stacks session past) thread (admitted events session thread past) (refused session thread past)
    (was_opened session thread past) (is_open session thread past) (awaits_point session thread past) (is_due events session thread past)
    (in_write thread past) (last_begun thread past) (shows session thread past) (told_number session thread past)
    (pending events session thread past) (entries events session past)

-- No thread has more numbers than 32 bits count.
shows-few : (events : List EventDef) (session thread : ℕ) (past : Past) → IsLawful events past → TallyOn events session thread past → shows session thread past < 2 ^ 32
shows-few events session thread past lawful h =
    let few = begins_few events past lawful in
    let begun = writes_begun thread past in
    let some = admitted-few events (config_of session past) (opened_at session thread past) (closed_at session thread past) (writes_of thread past) in
    omega (arith, h.counted)

told-few : (events : List EventDef) (session thread : ℕ) (past : Past) → IsLawful events past → TallyOn events session thread past → told_number session thread past < 2 ^ 32
told-few events session thread past lawful h =
    let few = shows-few events session thread past lawful h in
    let up = runs-up (told_number session thread past) (shows session thread past) h.left (pending events session thread past) h.runs in
    omega arith

-- Nothing is due where a write can end.
end-none : (events : List EventDef) (session thread : ℕ) (past : Past) → IsLawful events past → has_due events thread past ≡ false → TallyOn events session thread past → is_due events session thread past ≡ false
end-none events session thread past lawful none h =
    false_from_ne_true (is_due events session thread past) (λ due.
    elim (cases_Bool (is_open session thread past)) [
      | inl open_there ↦
          let there = open_present events session thread past lawful open_there in
          let some : has_due events thread past ≡ true = any_kept (λ s. is_present s past) (λ s. is_due events s thread past) session (accepted past) there due (present_accepted session past there) in
          cc
      | inr shut ↦ let none_due = (h.shut shut).0 in cc
    ])

-- A session that was closed on a thread was opened there.
awaits-opened : (events : List EventDef) (session thread : ℕ) (past : Past) → IsLawful events past → awaits_point session thread past ≡ true → was_opened session thread past ≡ true
awaits-opened events session thread [] lawful h = h
awaits-opened events session thread (step.Open s t ∷ past) lawful h =
    opens_more thread t (opened session past) (eqb s session) (eqb t thread) (awaits_point session thread past) refl (awaits-opened events session thread past lawful.0) (or_right _ _ h)
awaits-opened events session thread (step.Close s t ∷ past) lawful h =
    elim (or_cases (eqb s session && eqb t thread) (awaits_point session thread past) h) [
      | inl both ↦
          let parts = and_parts (eqb s session) (eqb t thread) both in
          let inside = not-false (is_open s t past) (none_there (objections events past (step.Close s t)) lawful.1).1.1.0 in
          open_opened session thread past (rw (eqb-true s session parts.0, eqb-true t thread parts.1) at inside)
      | inr before ↦ awaits-opened events session thread past lawful.0 before
    ]
awaits-opened events session thread (step.Point s stamp ∷ past) lawful h = awaits-opened events session thread past lawful.0 (and_parts _ _ h).1
awaits-opened events session thread (step.Finish s stamp ∷ past) lawful h = awaits-opened events session thread past lawful.0 (and_parts _ _ h).1
awaits-opened events session thread (_ ∷ past) lawful h = awaits-opened events session thread past lawful.0 h

named-opened : (events : List EventDef) (session thread : ℕ) (past : Past) → IsLawful events past → is_named session thread past ≡ true → was_opened session thread past ≡ true
named-opened events session thread past lawful h =
    elim (or_cases (is_open session thread past) (awaits_point session thread past) h)
    [ inl inside ↦ open_opened session thread past inside | inr awaits ↦ awaits-opened events session thread past lawful awaits ]

-- What is not kept is not among those that are.
pub any_dropped : (keep : ℕ → Bool) (n : ℕ) → keep n ≡ false → (xs : List ℕ) → list_any (λ x. eqb x n) (filter keep xs) ≡ false
any_dropped keep n dropped [] = refl
any_dropped keep n dropped (x ∷ xs) =
    elim (cases_Bool (keep x)) [
      | inl kept ↦ rw (kept, ne_eqb x n (λ same. let no : false ≡ true = rw (same, dropped) at kept in cc)) (any_dropped keep n dropped xs)
      | inr out ↦ rw out (any_dropped keep n dropped xs)
    ]

-- The threads that a point of the session names.
abbrev named : ℕ → Past → List ℕ
named session past = filter (λ t. is_named session t past) (opened session past)

-- A point tells the last number of a thread that it names, and nothing of another.
point_step : (events : List EventDef) (session thread stamp : ℕ) (past : Past) → IsLawful events past → TallyOn events session thread past → Tally events (has_stacks session past) thread (admitted events session thread past) (refused session thread past) (was_opened session thread past) (is_open session thread past) false (is_due events session thread past) (in_write thread past) (last_begun thread past) (shows session thread past) (told_number session thread past) (pending events session thread past) (entries events session past ++ Point (point_entry session stamp past) ∷ [])
point_step events session thread stamp past lawful h =
    let told = λ (t : ℕ). told_number session t past in
    let few = told-few events session thread past lawful h in
    elim (cases_Bool (is_named session thread past)) [
      | inl there ↦
          let any = any_kept (λ t. is_named session t past) (λ t. eqb t thread) thread (opened session past) there (eq-eqb thread thread refl) (named-opened events session thread past lawful there) in
          point_tally events _ thread _ _ _ _ _ _ _ _ _ _ _ _ (point_entry session stamp past)
          (λ seen skipped later on. rw append-nil (knowns-some told thread seen skipped (named session past) later any on few))
          (λ before. rw append-nil (knowns-last told thread (named session past) before any)) h
      | inr out ↦
          let none = any_dropped (λ t. is_named session t past) thread out (opened session past) in
          let awaits = (or_parts (is_open session thread past) (awaits_point session thread past) out).1 in
          more_tally events _ thread _ _ _ _ _ _ _ _ _ _ _ _ (Point (point_entry session stamp past) ∷ []) refl
          (rw append-nil (knowns-none told thread (named session past) none)) (rw awaits at h)
    ]

-- What another thread had waiting tells nothing of this one.
other_step : (events : List EventDef) (session thread t : ℕ) (past : Past) → eqb t thread ≡ false → TallyOn events session thread past → Tally events (has_stacks session past) thread (admitted events session thread past) (refused session thread past) (was_opened session thread past) (is_open session thread past) (awaits_point session thread past) (is_due events session thread past) (in_write thread past) (last_begun thread past) (shows session thread past) (told_number session thread past) (pending events session thread past) (entries events session past ++ map Event (pending events session t past))
other_step events session thread t past differ h =
    let own = pending-own events session t past in
    let waiting = pending events session t past in
    more_tally events _ thread _ _ _ _ _ _ _ _ _ _ _ _ (map Event waiting) (events_of-other thread t waiting differ own) (sightings-other thread t waiting differ own) h

accept_step : (events : List EventDef) (session thread s : ℕ) (config : _) (past : Past) → IsLawful events (step.Accept s config ∷ past) → TallyOn events session thread past → TallyOn events session thread (step.Accept s config ∷ past)
accept_step events session thread s config past lawful h =
    elim (cases_eq s session) [
      | inl same ↦
          let unreached : was_reached session past ≡ false = rw same at (accept_unreached events past s config lawful.1) in
          let none = unreached_none events session thread past lawful.0 unreached in
          let shut = never-open _ _ _ _ none (stands events session thread past lawful.0) in
          let before : Tally events (has_stacks session past) thread [] (refused session thread past) (was_opened session thread past) false (awaits_point session thread past) (is_due events session thread past) (in_write thread past) (last_begun thread past) (shows session thread past) (told_number session thread past) (pending events session thread past) (entries events session past) = rw (none, shut) at h in
          rw (eq-eqb s session same, none, shut) (stacks_tally events _ config.stackwalk thread _ _ _ _ _ _ _ _ _ _ before)
      | inr other ↦ rw (ne_eqb s session other) h
    ]

open_step : (events : List EventDef) (session thread s t : ℕ) (past : Past) → IsLawful events (step.Open s t ∷ past) → TallyOn events session thread past → TallyOn events session thread (step.Open s t ∷ past)
open_step events session thread s t past lawful h =
    let inserted = any_inserted (λ x. eqb x thread) t (opened session past) in
    elim (cases_eq s session) [
      | inl same ↦
          elim (cases_eq t thread) [
            | inl same_thread ↦
                let fresh = (none_there (objections events past (step.Open s t)) lawful.1).1.1.0 in
                let unopened : was_opened session thread past ≡ false = rw same_thread at (rw same at fresh) in
                let none = unopened_none session thread past unopened in
                let shut = unopened-shut session thread past unopened in
                let not_closed = never-closed _ _ _ _ none (stands events session thread past lawful.0) in
                rw (eq-eqb s session same, inserted, eq-eqb t thread same_thread, not_closed, open-admitted events (config_of session past) (writes_of thread past))
                (open_tally events _ thread [] _ _ _ _ _ _ _ _ _ _ (rw (none, shut) at h))
            | inr other ↦ rw (eq-eqb s session same, inserted, ne_eqb t thread other) h
          ]
      | inr other ↦ rw (ne_eqb s session other) h
    ]

begin_step : (events : List EventDef) (session thread t stamp : ℕ) (write : _) (past : Past) → IsLawful events (step.Begin t stamp write ∷ past) → TallyOn events session thread past → TallyOn events session thread (step.Begin t stamp write ∷ past)
begin_step events session thread t stamp write past lawful h =
    elim (cases_eq t thread) [
      | inl same ↦
          let known = none_there (objections events past (step.Begin t stamp write)) lawful.1 in
          let outside : in_write thread past ≡ false = rw same at known.1.0 in
          let begun : Begun = record { stamp = stamp; write = write } in
          let is_wanted = admits_write events (config_of session past) write in
          rw (eq-eqb t thread same, begin-admitted events (config_of session past) (opened_at session thread past) (closed_at session thread past) (is_open session thread past) (writes_of thread past) write (stands events session thread past lawful.0))
          (begin_tally events _ thread _ _ _ _ _ _ (is_open session thread past && is_wanted) _ _ begun _ _ _ _ outside known.1.1.0 (λ both. (and_parts (is_open session thread past) is_wanted both).0) h)
      | inr other ↦ rw (ne_eqb t thread other) h
    ]

show_step : (events : List EventDef) (session thread t s : ℕ) (past : Past) → IsLawful events (step.Show t s ∷ past) → TallyOn events session thread past → TallyOn events session thread (step.Show t s ∷ past)
show_step events session thread t s past lawful h =
    elim (cases_eq s session) [
      | inl same ↦
          elim (cases_eq t thread) [
            | inl same_thread ↦
                let known = none_there (objections events past (step.Show t s)) lawful.1 in
                let due = not-false (is_due events s t past) known.1.1.1.0 in
                let due_here : is_due events session thread past ≡ true = rw same_thread at (rw same at due) in
                rw (eq-eqb s session same, eq-eqb t thread same_thread)
                (elim (cases_Bool (is_refused session thread past)) [
                  | inl out ↦ rw out (refuse_tally events _ thread _ _ _ _ _ _ _ _ _ _ _ _ due_here h)
                  | inr in_room ↦ rw in_room (write_tally events _ thread _ _ _ _ _ _ _ _ _ _ _ _ due_here h)
                ])
            | inr other ↦ rw (eq-eqb s session same, ne_eqb t thread other, zero-add (shows session thread past)) h
          ]
      | inr other ↦ rw (ne_eqb s session other, zero-add (shows session thread past)) h
    ]

end_step : (events : List EventDef) (session thread t : ℕ) (past : Past) → IsLawful events (step.End t ∷ past) → TallyOn events session thread past → TallyOn events session thread (step.End t ∷ past)
end_step events session thread t past lawful h =
    elim (cases_eq t thread) [
      | inl same ↦
          let known = none_there (objections events past (step.End t)) lawful.1 in
          let none : has_due events thread past ≡ false = rw same at known.1.1.0 in
          rw (eq-eqb t thread same) (end_tally events _ thread _ _ _ _ _ _ _ _ _ _ _ _ (end-none events session thread past lawful.0 none h) h)
      | inr other ↦ rw (ne_eqb t thread other) h
    ]

steal_step : (events : List EventDef) (session thread s t : ℕ) (past : Past) → IsLawful events (step.Steal s t ∷ past) → TallyOn events session thread past → TallyOn events session thread (step.Steal s t ∷ past)
steal_step events session thread s t past lawful h =
    elim (cases_eq s session) [
      | inl same ↦
          elim (cases_eq t thread) [
            | inl same_thread ↦
                let known = none_there (objections events past (step.Steal s t)) lawful.1 in
                let inside = not-false (is_open s t past) known.1.1.0 in
                let here : is_open session thread past ≡ true = rw same_thread at (rw same at inside) in
                rw (eq-eqb s session same, same_thread, eq-eqb thread thread refl)
                (take_tally events _ thread _ _ _ _ _ _ _ _ _ _ _ _ (pending-own events session thread past) (shows-few events session thread past lawful.0 h) (λ shut. cc) (λ shut. cc) _ _ h)
            | inr other ↦
                let differ = ne_eqb t thread other in
                rw (eq-eqb s session same, differ) (other_step events session thread t past differ h)
          ]
      | inr other ↦ rw (ne_eqb s session other) h
    ]

close_step : (events : List EventDef) (session thread s t : ℕ) (past : Past) → IsLawful events (step.Close s t ∷ past) → TallyOn events session thread past → TallyOn events session thread (step.Close s t ∷ past)
close_step events session thread s t past lawful h =
    elim (cases_eq s session) [
      | inl same ↦
          elim (cases_eq t thread) [
            | inl same_thread ↦
                let known = none_there (objections events past (step.Close s t)) lawful.1 in
                let inside = not-false (is_open s t past) known.1.1.0 in
                let here : is_open session thread past ≡ true = rw same_thread at (rw same at inside) in
                let outside : in_write thread past ≡ false = rw same_thread at known.1.1.1.0 in
                let not_closed = open-not_closed _ _ _ _ here (stands events session thread past lawful.0) in
                rw (eq-eqb s session same, same_thread, eq-eqb thread thread refl)
                (take_tally events _ thread _ _ _ false true _ _ _ _ _ _ _ (pending-own events session thread past) (shows-few events session thread past lawful.0 h) (λ shut. h.idle outside) (λ shut. refl) _ _ (rw not_closed at h))
            | inr other ↦
                let differ = ne_eqb t thread other in
                rw (eq-eqb s session same, differ) (other_step events session thread t past differ h)
          ]
      | inr other ↦ rw (ne_eqb s session other) h
    ]

-- A Point or a Finish of the session has a point; of another session it changes nothing.
turn_step : (events : List EventDef) (session thread s stamp : ℕ) (past : Past) → IsLawful events past → TallyOn events session thread past → TallyOn events session thread (step.Point s stamp ∷ past)
turn_step events session thread s stamp past lawful h =
    elim (cases_Bool (eqb s session))
    [ inl same ↦ rw same (point_step events session thread stamp past lawful h) | inr other ↦ rw other h ]

pub tally : (events : List EventDef) (session thread : ℕ) (past : Past) → IsLawful events past → TallyOn events session thread past
tally events session thread [] lawful = empty_tally events thread
tally events session thread (step.Accept s config ∷ past) lawful = accept_step events session thread s config past lawful (tally events session thread past lawful.0)
tally events session thread (step.Open s t ∷ past) lawful = open_step events session thread s t past lawful (tally events session thread past lawful.0)
tally events session thread (step.Begin t stamp write ∷ past) lawful = begin_step events session thread t stamp write past lawful (tally events session thread past lawful.0)
tally events session thread (step.Show t s ∷ past) lawful = show_step events session thread t s past lawful (tally events session thread past lawful.0)
tally events session thread (step.End t ∷ past) lawful = end_step events session thread t past lawful (tally events session thread past lawful.0)
tally events session thread (step.Steal s t ∷ past) lawful = steal_step events session thread s t past lawful (tally events session thread past lawful.0)
tally events session thread (step.Point s stamp ∷ past) lawful = turn_step events session thread s stamp past lawful.0 (tally events session thread past lawful.0)
tally events session thread (step.Close s t ∷ past) lawful = close_step events session thread s t past lawful (tally events session thread past lawful.0)
tally events session thread (step.Finish s stamp ∷ past) lawful = turn_step events session thread s stamp past lawful.0 (tally events session thread past lawful.0)
tally events session thread (_ ∷ past) lawful = tally events session thread past lawful.0
