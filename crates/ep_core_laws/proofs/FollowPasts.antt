-- What holds of every lawful list of steps.
use Rattle.std.proofs.Common.{◌≡◌, ℕ, ◌<◌, Bool, true, false, List, [], ◌∷◌, refl, ap, sym, ◌∙◌, subst, arith, if◌then◌else◌, inl, inr}
use Rattle.std.specs.Prelude.{◌&&◌, ◌||◌, not, filter, nat_le, ◌==◌}
use Rattle.std.specs.Int.{is_in_range}
use Rattle.std.specs.List.{list_any}
use Rattle.std.proofs.lemmas.Bool.{eqb-true, eq-eqb, ne_eqb, le-leb, leb-true, leb-false, and_parts, and_right, or_cases, or_parts, or_from, not-true, not-false, cases_eq, false≢true, false_from_ne_true}
use Rattle.ep_defs.specs.declared.limits.TheConstants.{THREADS}
use Rattle.ep_defs.specs.declared.event.EventDef.{EventDef}
use Rattle.ep_defs.specs.declared.session.Config.{Config}
use Rattle.ep_model.specs.declared.step.Step.TheVariants as step
use Rattle.ep_model.specs.Chunks.{chunks_of, shown_size}
use Rattle.ep_model.specs.Fold.{Budget, budget_of, with_show, with_record, lacks_chunk}
use Rattle.ep_model.specs.History.{Past, accepted, present, is_present, entered, was_there, is_there, has_left, is_open, is_due, in_write, writes_of}
use Rattle.ep_model.specs.Lawful.{objections, IsLawful}
use Rattle.ep_model.proofs.Lists.{has}
use Rattle.ep_model.proofs.Objections.{none_there}
use Rattle.ep_model.proofs.Sessions.{present_accepted, open_present, accept_new}
use Rattle.ep_model.proofs.Due.{due_within}
use Rattle.ep_tables.proofs.Lists.{IsDistinct, distinct-filter}
use Rattle.ep_tables.proofs.Pasts.{open_there}
use Rattle.ep_tables.proofs.Taken.{has_threads, threads_distinct}

-- ---- threads that left, or have not come

-- A thread that left is in no write.
pub left_quiet : (events : List EventDef) (thread : ℕ) (past : Past) → IsLawful events past → has_left thread past ≡ true → in_write thread past ≡ false
left_quiet events thread [] lawful h = refl
left_quiet events thread (step.Leave t ∷ past) lawful h =
    elim (or_cases (t == thread) (has_left thread past) h) [
      | inl here ↦
          let P : ℕ → Type 0 = λ n. in_write n past ≡ false in
          subst P (eqb-true t thread here) (none_there (objections events past (step.Leave t)) lawful.1).1.0
      | inr before ↦ left_quiet events thread past lawful.0 before
    ]
left_quiet events thread (step.Begin t stamp write ∷ past) lawful h =
    let there = not-false (is_there t past) (none_there (objections events past (step.Begin t stamp write)) lawful.1).0 in
    let stays = not-true (has_left t past) (and_parts (was_there t past) (not (has_left t past)) there).1 in
    elim (cases_eq t thread) [
      | inl same ↦ let P : ℕ → Type 0 = λ n. has_left n past ≡ false in absurd (false≢true (sym (subst P same stays) ∙ h))
      | inr other ↦ rw (ne_eqb t thread other) (left_quiet events thread past lawful.0 h)
    ]
left_quiet events thread (step.End t ∷ past) lawful h = and_right (not (t == thread)) (in_write thread past) (left_quiet events thread past lawful.0 h)
left_quiet events thread (_ ∷ past) lawful h = left_quiet events thread past lawful.0 h

-- A thread that is there is no other that has not come.
there_apart : (t thread : ℕ) (past : Past) → is_there t past ≡ true → was_there thread past ≡ false → (t == thread) ≡ false
there_apart t thread past there never =
    let P : ℕ → Type 0 = λ n. was_there n past ≡ true in
    ne_eqb t thread (λ same. false≢true (sym never ∙ subst P same (and_parts (was_there t past) (not (has_left t past)) there).0))

not_before : (a b c : Bool) → (a || (b || c)) ≡ false → (a || c) ≡ false
not_before false false c h = h
not_before false true c h = cc
not_before true b c h = cc

-- A thread that has not come did nothing.
pub never_came : (events : List EventDef) (thread : ℕ) (past : Past) → IsLawful events past → was_there thread past ≡ false → (writes_of thread past ≡ []) × (in_write thread past ≡ false) × (has_left thread past ≡ false)
never_came events thread [] lawful never = (refl, refl, refl)
never_came events thread (step.Enter t ∷ past) lawful never =
    never_came events thread past lawful.0 (not_before (is_in_range 1 THREADS thread) (t == thread) (has thread (entered past)) never)
never_came events thread (step.Begin t stamp write ∷ past) lawful never =
    let there = not-false (is_there t past) (none_there (objections events past (step.Begin t stamp write)) lawful.1).0 in
    let before = never_came events thread past lawful.0 never in
    let off = there_apart t thread past there never in
    (rw off before.0, rw off before.1, before.2)
never_came events thread (step.End t ∷ past) lawful never =
    let before = never_came events thread past lawful.0 never in
    (before.0, and_right (not (t == thread)) (in_write thread past) before.1, before.2)
never_came events thread (step.Leave t ∷ past) lawful never =
    let there = not-false (is_there t past) (none_there (objections events past (step.Leave t)) lawful.1).0 in
    let before = never_came events thread past lawful.0 never in
    (before.0, before.1, or_from (t == thread) (has_left thread past) (there_apart t thread past there never) before.2)
never_came events thread (_ ∷ past) lawful never = never_came events thread past lawful.0 never

-- No session is open on a thread that has not come.
pub never_open : (events : List EventDef) (session thread : ℕ) (past : Past) → IsLawful events past → was_there thread past ≡ false → is_open session thread past ≡ false
never_open events session thread past lawful never =
    elim (is_open session thread past) as (λ v. is_open session thread past ≡ v → v ≡ false) [
      | true ↦ λ on. absurd (false≢true (sym never ∙ open_there events session thread past lawful on))
      | false ↦ λ _. refl
    ] refl

-- Nothing is due on a thread that is in no write.
pub quiet_undue : (events : List EventDef) (session thread : ℕ) (past : Past) → IsLawful events past → in_write thread past ≡ false → is_due events session thread past ≡ false
quiet_undue events session thread past lawful quiet =
    elim (is_due events session thread past) as (λ v. is_due events session thread past ≡ v → v ≡ false) [
      | true ↦ λ due. absurd (false≢true (sym quiet ∙ (due_within events session thread past lawful due).writing))
      | false ↦ λ _. refl
    ] refl

-- A thread that enters has not come before.
pub enters_anew : (events : List EventDef) (thread : ℕ) (past : Past) → IsLawful events (step.Enter thread ∷ past) → was_there thread past ≡ false
enters_anew events thread past lawful = sym (has_threads thread past) ∙ (threads_distinct events (step.Enter thread ∷ past) lawful).0

-- ---- sessions that were not accepted

-- It is open nowhere.
pub never_on : (events : List EventDef) (session thread : ℕ) (past : Past) → IsLawful events past → has session (accepted past) ≡ false → is_open session thread past ≡ false
never_on events session thread past lawful never =
    false_from_ne_true (is_open session thread past) (λ on. false≢true (sym never ∙ present_accepted session past (open_present events session thread past lawful on)))

-- ---- the lists of sessions

accepted_distinct : (events : List EventDef) (past : Past) → IsLawful events past → IsDistinct (accepted past)
accepted_distinct events [] lawful = tt
accepted_distinct events (step.Accept s config ∷ past) lawful = (accept_new events past s config lawful.1, accepted_distinct events past lawful.0)
accepted_distinct events (_ ∷ past) lawful = accepted_distinct events past lawful.0

pub present_distinct : (events : List EventDef) (past : Past) → IsLawful events past → IsDistinct (present past)
present_distinct events past lawful = distinct-filter (λ s. is_present s past) (accepted past) (accepted_distinct events past lawful)

filter_but : (n : ℕ) (p : ℕ → Bool) (xs : List ℕ) → has n xs ≡ false → filter (λ x. (n == x) || p x) xs ≡ filter p xs
filter_but n p [] none = refl
filter_but n p (x ∷ xs) none =
    let parts = or_parts (x == n) (has n xs) none in
    let rest = filter_but n p xs parts.1 in
    let off : (n == x) ≡ false = ne_eqb n x (λ same. false≢true (sym parts.0 ∙ eq-eqb x n (sym same))) in
    ap (λ b. if b || p x then x ∷ filter (λ x. (n == x) || p x) xs else filter (λ x. (n == x) || p x) xs) off
    ∙ ap (λ ys. if p x then x ∷ ys else ys) rest

-- The session that is accepted is present with those that were.
pub present_accept : (s : ℕ) (config : Config) (past : Past) → has s (accepted past) ≡ false → present (step.Accept s config ∷ past) ≡ s ∷ present past
present_accept s config past anew =
    let others : List ℕ = filter (λ x. (s == x) || is_present x past) (accepted past) in
    ap (λ b. if b || is_present s past then s ∷ others else others) (eq-eqb s s refl)
    ∙ ap (λ xs. s ∷ xs) (filter_but s (λ x. is_present x past) (accepted past) anew)

filter_both : (p q : ℕ → Bool) (xs : List ℕ) → filter (λ x. p x && q x) xs ≡ filter p (filter q xs)
filter_both p q [] = refl
filter_both p q (x ∷ xs) =
    elim (q x) as (λ v. q x ≡ v → filter (λ x. p x && q x) (x ∷ xs) ≡ filter p (if v then x ∷ filter q xs else filter q xs)) [
      | true ↦ λ is.
          ap (λ b. if b then x ∷ filter (λ x. p x && q x) xs else filter (λ x. p x && q x) xs) (ap (λ b. p x && b) is ∙ and_true (p x))
          ∙ ap (λ ys. if p x then x ∷ ys else ys) (filter_both p q xs)
      | false ↦ λ is. ap (λ b. if b then x ∷ filter (λ x. p x && q x) xs else filter (λ x. p x && q x) xs) (and_right (p x) (q x) is) ∙ filter_both p q xs
    ] refl
  where
    and_true : (b : Bool) → (b && true) ≡ b
    and_true true = refl
    and_true false = refl

-- The session that finishes is present no more.
pub present_finish : (s stamp : ℕ) (past : Past) → present (step.Finish s stamp ∷ past) ≡ filter (λ x. not (s == x)) (present past)
present_finish s stamp past = filter_both (λ x. not (s == x)) (λ x. is_present x past) (accepted past)

-- ---- the numbers that came last

-- The numbers so far and a next one.
pub last_more : (n last next : ℕ) (ns : List ℕ) → list_any (λ m. nat_le n m) ns ≡ nat_le n last → last < next → list_any (λ m. nat_le n m) (next ∷ ns) ≡ nat_le n next
last_more n last next ns before more =
    elim (nat_le n next) as (λ v. nat_le n next ≡ v → (v || list_any (λ m. nat_le n m) ns) ≡ v) [
      | true ↦ λ _. refl
      | false ↦ λ above. before ∙ elim (nat_le n last) as (λ v. nat_le n last ≡ v → v ≡ false) [
        | true ↦ λ is. let most = leb-true n last is in absurd (false≢true (sym above ∙ le-leb n next (omega arith)))
        | false ↦ λ _. refl
      ] refl
    ] refl

pub last_less : (last next : ℕ) → nat_le next last ≡ false → last < next
last_less last next is = let less = leb-false next last is in omega (arith, less)

-- ---- chunks in hand

-- A Show leaves what is in hand.
pub show_hand : (session t s : ℕ) (past : Past) → (budget_of session (step.Show t s ∷ past)).in_hand ≡ (budget_of session past).in_hand
show_hand session t s past =
    elim (s == session) as (λ v. (if v then with_show (budget_of session past) (chunks_of session past) t (shown_size t past) else budget_of session past).in_hand ≡ (budget_of session past).in_hand) [
      | true ↦ either (lacks_chunk (budget_of session past) (chunks_of session past) t (shown_size t past)) (budget_of session past) (with_record (budget_of session past) t (shown_size t past)) refl
      | false ↦ refl
    ]
  where
    either : (b : Bool) (x y : Budget) → y.in_hand ≡ x.in_hand → (if b then x else y).in_hand ≡ x.in_hand
    either true x y same = refl
    either false x y same = same
