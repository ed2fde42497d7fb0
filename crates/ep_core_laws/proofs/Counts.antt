-- How many events a session's stream tells: no more than writes were begun.
use Rattle.std.proofs.Common.{◌≡◌, ℕ, suc, ◌+◌, ◌≤◌, Bool, true, false, inl, inr, List, [], ◌∷◌, ◌++◌, length, map, Option, Some, None, refl, ap, sym, ◌∙◌, subst, arith, zero-add}
use Rattle.std.specs.Prelude.{◌&&◌, ◌||◌, not, filter, fold, ◌==◌, if◌then◌else◌}
use Rattle.std.proofs.lemmas.Bool.{eqb-true, eq-eqb, ne_eqb, and_parts, and_from, not-true, not-false, cases_Bool, cases_eq, false≢true}
use Rattle.std.proofs.lemmas.List.{length-append}
use Rattle.ep_defs.specs.Definitions.{definition_at}
use Rattle.ep_defs.specs.Entry.{EventEntry, PointEntry, Entry, Event, Point}
use Rattle.ep_defs.specs.declared.event.EventDef.{EventDef}
use Rattle.nt_write.specs.Value.{framed_with}
use Rattle.nt_write.specs.Writable.{framed_after, framed}
use Rattle.nt_write.proofs.Entries.{framed_one}
use Rattle.ep_model.specs.declared.step.Step.TheVariants as step
use Rattle.ep_model.specs.Chunks.{is_refused}
use Rattle.ep_model.specs.Entries.{entries, entry_if, entry_shown, has_stacks, pending, point_entry}
use Rattle.ep_model.specs.History.{Past, Begun, admits_write, config_of, is_due, is_open, last_begun, shows}
use Rattle.ep_model.specs.Lawful.{IsLawful, objections, begins}
use Rattle.ep_model.proofs.Lists.{has, eqb_turn}
use Rattle.ep_model.proofs.Objections.{none_there}
use Rattle.ep_stream.specs.Telling.{IsFront}
use Rattle.ep_tables.proofs.Lists.{has-filter}

-- ---- events among entries

abbrev one_event : Entry → ℕ
one_event (Event e) = 1
one_event (Point p) = 0

abbrev pub events_in : List Entry → ℕ
events_in [] = 0
events_in (entry ∷ es) = one_event entry + events_in es

events_both : (es fs : List Entry) → events_in (es ++ fs) ≡ events_in es + events_in fs
events_both [] fs = sym (zero-add (events_in fs))
events_both (entry ∷ es) fs = omega (arith, events_both es fs)

events_all : (es : List EventEntry) → events_in (map Event es) ≡ length es
events_all [] = refl
events_all (e ∷ es) = omega (arith, events_all es)

-- Of the entries since the last point at most all events have a stack.
pub framed_from : (before : ℕ) (es : List Entry) → fold framed_after before es ≤ before + events_in es
framed_from before [] = omega arith
framed_from before (Event e ∷ es) = omega (arith, framed_one before e.stack, framed_from (framed_with before e.stack) es)
framed_from before (Point p ∷ es) = omega (arith, framed_from 0 es)

-- The same where only some of the next entries are told, from the first one on.
pub framed_most : (told done all : List Entry) → IsFront done all → framed (told ++ done) ≤ events_in told + events_in all
framed_most told done all front =
    let parts : events_in all ≡ events_in done + events_in front.0 = ap events_in (sym front.1) ∙ events_both done front.0 in
    omega (arith, framed_from 0 (told ++ done), events_both told done, parts)

-- ---- numbers in lists

abbrev one_if : Bool → ℕ
one_if b = if b then 1 else 0

abbrev times : ℕ → List ℕ → ℕ
times n [] = 0
times n (x ∷ xs) = (if x == n then 1 else 0) + times n xs

-- All but one number.
abbrev but : ℕ → List ℕ → List ℕ
but n xs = filter (λ x. not (x == n)) xs

times_most : (n : ℕ) (xs : List ℕ) → times n xs ≤ length xs
times_most n [] = omega arith
times_most n (x ∷ xs) =
    let most = times_most n xs in
    elim (x == n) as (λ v. (if v then 1 else 0) + times n xs ≤ suc (length xs)) [ true ↦ omega (arith, most) | false ↦ omega (arith, most) ]

times_but : (n : ℕ) (xs : List ℕ) → times n xs + length (but n xs) ≡ length xs
times_but n [] = refl
times_but n (x ∷ xs) =
    let before = times_but n xs in
    elim (x == n) as (λ v. ((if v then 1 else 0) + times n xs) + length (if not v then x ∷ but n xs else but n xs) ≡ suc (length xs)) [
      | true ↦ omega (arith, before)
      | false ↦ omega (arith, before)
    ]

-- Where others are taken out the number stands as often.
times_other : (n other : ℕ) (xs : List ℕ) → (other ≡ n → ⊥) → times n (but other xs) ≡ times n xs
times_other n other [] apart = refl
times_other n other (x ∷ xs) apart =
    let before = times_other n other xs apart in
    elim (x == other) as (λ v. (x == other) ≡ v → times n (if not v then x ∷ but other xs else but other xs) ≡ (if x == n then 1 else 0) + times n xs) [
      | true ↦ λ same. before ∙ sym (zero-add (times n xs)) ∙ ap (λ (b : Bool). (if b then 1 else 0) + times n xs) (sym (ne_eqb x n (λ is. apart (sym (eqb-true x other same) ∙ is))))
      | false ↦ λ _. ap (λ (k : ℕ). (if x == n then 1 else 0) + k) before
    ]
    refl

times_some : (n : ℕ) (xs : List ℕ) → has n xs ≡ true → 1 ≤ times n xs
times_some n [] is = absurd (false≢true is)
times_some n (x ∷ xs) is =
    elim (x == n) as (λ v. (v || has n xs) ≡ true → 1 ≤ (if v then 1 else 0) + times n xs) [
      | true ↦ λ _. omega arith
      | false ↦ λ later. let some = times_some n xs later in omega arith
    ] is

-- ---- writes that are not told yet

-- The threads of the writes that were shown to the session since it took the thread's.
abbrev waiting : ℕ → Past → List ℕ
waiting session [] = []
waiting session (step.Show t s ∷ past) = if s == session then t ∷ waiting session past else waiting session past
waiting session (step.Steal s t ∷ past) = if s == session then but t (waiting session past) else waiting session past
waiting session (step.Close s t ∷ past) = if s == session then but t (waiting session past) else waiting session past
waiting session (_ ∷ past) = waiting session past

-- The threads of the writes that were begun since one of the thread's was shown to the session.
abbrev owing : ℕ → Past → List ℕ
owing session [] = []
owing session (step.Begin t stamp write ∷ past) = t ∷ owing session past
owing session (step.Show t s ∷ past) = if s == session then but t (owing session past) else owing session past
owing session (_ ∷ past) = owing session past

most_one : (events : List EventDef) (stacks : Bool) (thread number : ℕ) (begun : Option Begun) → length (entry_shown events stacks thread number begun) ≤ 1
most_one events stacks thread number None = omega arith
most_one events stacks thread number (Some begun) = defined (definition_at events begun.write.event)
  where
    defined : (def : Option EventDef) → length (entry_if stacks thread number begun def) ≤ 1
    defined None = omega arith
    defined (Some def) = omega arith

taken_waits : (thread t : ℕ) (own : Bool) (old : List EventEntry) (w : List ℕ) → length old ≤ times thread w → length (if own && (t == thread) then [] else old) ≤ times thread (if own then but t w else w)
taken_waits thread t false old w before = before
taken_waits thread t true old w before =
    elim (cases_eq t thread) [
      | inl same ↦ rw (eq-eqb t thread same) (omega arith)
      | inr other ↦ rw (ne_eqb t thread other) (let stays = times_other thread t w other in omega (arith, stays, before))
    ]

shown_waits : (thread t : ℕ) (own here kept : Bool) (old shown : List EventEntry) (w : List ℕ) → here ≡ (t == thread) → length old ≤ times thread w → length shown ≤ 1
    → length (if own && here && kept then old ++ shown else old) ≤ times thread (if own then t ∷ w else w)
shown_waits thread t false here kept old shown w is before one = before
shown_waits thread t true false kept old shown w is before one = omega (arith, before)
shown_waits thread t true true false old shown w is before one = omega (arith, before)
shown_waits thread t true true true old shown w is before one =
    let same : one_if (t == thread) ≡ 1 = ap one_if (sym is) in
    omega (arith, before, one, same, length-append old shown)

-- What is pending was shown.
pending_waits : (events : List EventDef) (session thread : ℕ) (past : Past) → length (pending events session thread past) ≤ times thread (waiting session past)
pending_waits events session thread [] = omega arith
pending_waits events session thread (step.Show t s ∷ past) =
    let shown = entry_shown events (has_stacks session past) thread (shows session thread past + 1) (last_begun thread past) in
    shown_waits thread t (s == session) (t == thread) (not (is_refused session thread past)) (pending events session thread past) shown (waiting session past) refl
    (pending_waits events session thread past)
    (most_one events (has_stacks session past) thread (shows session thread past + 1) (last_begun thread past))
pending_waits events session thread (step.Steal s t ∷ past) =
    taken_waits thread t (s == session) (pending events session thread past) (waiting session past) (pending_waits events session thread past)
pending_waits events session thread (step.Close s t ∷ past) =
    taken_waits thread t (s == session) (pending events session thread past) (waiting session past) (pending_waits events session thread past)
pending_waits events session thread (_ ∷ past) = pending_waits events session thread past

-- A write that is due was not shown yet.
due_owed : (events : List EventDef) (session thread : ℕ) (past : Past) → is_due events session thread past ≡ true → has thread (owing session past) ≡ true
due_owed events session thread [] h = h
due_owed events session thread (step.Begin t stamp write ∷ past) h =
    elim (t == thread) as (λ v. (if v then is_open session thread past && admits_write events (config_of session past) write else is_due events session thread past) ≡ true → (v || has thread (owing session past)) ≡ true) [
      | true ↦ λ _. refl
      | false ↦ λ due. due_owed events session thread past due
    ] h
due_owed events session thread (step.Show t s ∷ past) h =
    let parts = and_parts (not ((s == session) && (t == thread))) (is_due events session thread past) h in
    let before = due_owed events session thread past parts.1 in
    let others = owing session past in
    elim (s == session) as (λ v. not (v && (t == thread)) ≡ true → has thread (if v then but t others else others) ≡ true) [
      | true ↦ λ off. has-filter (λ x. not (x == t)) thread others ∙ and_from (not (thread == t)) (has thread others) (ap not (eqb_turn t thread (not-true (t == thread) off))) before
      | false ↦ λ _. before
    ] parts.0
due_owed events session thread (_ ∷ past) h = due_owed events session thread past h

-- ---- all that is told

told_taken : (events : List EventDef) (session t : ℕ) (past : Past) → events_in (entries events session past) + length (waiting session past) + length (owing session past) ≤ begins past
    → events_in (entries events session past ++ map Event (pending events session t past)) + length (but t (waiting session past)) + length (owing session past) ≤ begins past
told_taken events session t past before =
    let both = events_both (entries events session past) (map Event (pending events session t past)) in
    omega (arith, before, both, events_all (pending events session t past), pending_waits events session t past, times_but t (waiting session past))

told_point : (events : List EventDef) (session : ℕ) (past : Past) (point : PointEntry) → events_in (entries events session past) + length (waiting session past) + length (owing session past) ≤ begins past
    → events_in (entries events session past ++ Point point ∷ []) + length (waiting session past) + length (owing session past) ≤ begins past
told_point events session past point before =
    let none : events_in (Point point ∷ []) ≡ 0 = refl in
    omega (arith, before, none, events_both (entries events session past) (Point point ∷ []))

-- The events that a session told, those that it can take, and those that wait to be shown were begun, each once.
told_begun : (events : List EventDef) (session : ℕ) (past : Past) → IsLawful events past → events_in (entries events session past) + length (waiting session past) + length (owing session past) ≤ begins past
told_begun events session [] lawful = omega arith
told_begun events session (step.Begin t stamp write ∷ past) lawful = omega (arith, told_begun events session past lawful.0)
told_begun events session (step.Show t s ∷ past) lawful =
    let before = told_begun events session past lawful.0 in
    elim (cases_Bool (s == session)) [
      | inl own ↦
          let due = not-false (is_due events s t past) (none_there (objections events past (step.Show t s)) lawful.1).1.1.1.0 in
          let Due : ℕ → Type 0 = λ n. is_due events n t past ≡ true in
          let some = times_some t (owing session past) (due_owed events session t past (subst Due (eqb-true s session own) due)) in
          rw own (omega (arith, before, some, times_but t (owing session past)))
      | inr off ↦ rw off before
    ]
told_begun events session (step.Steal s t ∷ past) lawful =
    let before = told_begun events session past lawful.0 in
    elim (cases_Bool (s == session)) [ inl own ↦ rw own (told_taken events session t past before) | inr off ↦ rw off before ]
told_begun events session (step.Close s t ∷ past) lawful =
    let before = told_begun events session past lawful.0 in
    elim (cases_Bool (s == session)) [ inl own ↦ rw own (told_taken events session t past before) | inr off ↦ rw off before ]
told_begun events session (step.Point s stamp ∷ past) lawful =
    let before = told_begun events session past lawful.0 in
    elim (cases_Bool (s == session)) [ inl own ↦ rw own (told_point events session past (point_entry session stamp past) before) | inr off ↦ rw off before ]
told_begun events session (step.Finish s stamp ∷ past) lawful =
    let before = told_begun events session past lawful.0 in
    elim (cases_Bool (s == session)) [ inl own ↦ rw own (told_point events session past (point_entry session stamp past) before) | inr off ↦ rw off before ]
told_begun events session (_ ∷ past) lawful = told_begun events session past lawful.0

-- What a session told, and what a Steal of a thread takes.
pub few_taken : (events : List EventDef) (session thread : ℕ) (past : Past) → IsLawful events past → events_in (entries events session past) + events_in (map Event (pending events session thread past)) ≤ begins past
few_taken events session thread past lawful =
    omega (arith, told_begun events session past lawful, events_all (pending events session thread past), pending_waits events session thread past, times_most thread (waiting session past))

-- What a session told, and a point.
pub few_told : (events : List EventDef) (session : ℕ) (past : Past) (point : PointEntry) → IsLawful events past → events_in (entries events session past) + events_in (Point point ∷ []) ≤ begins past
few_told events session past point lawful = omega (arith, told_begun events session past lawful)
