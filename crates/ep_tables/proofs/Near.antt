-- Threads whose rows are found without the map of all threads.
use Rattle.std.proofs.Common.{◌≡◌, ℕ, zero, suc, ◌%◌, true, false, inl, inr, List, [], ◌∷◌, ◌++◌, length, Option, Some, None, refl, ap, sym, ◌∙◌, subst, arith, set, cond, if◌then◌else◌}
use Rattle.std.specs.Prelude.{◌⊎◌, slice_get, ◌==◌}
use Rattle.std.specs.BTreeMap.{is_at}
use Rattle.std.specs.Int.{is_in_range}
use Rattle.std.specs.Ordering.{nat_cmp}
use Rattle.std.proofs.lemmas.Bool.{eq-eqb, ne_eqb}
use Rattle.std.proofs.lemmas.Option.{same_Some}
use Rattle.ep_defs.specs.declared.limits.TheConstants.{THREADS}
use Rattle.ep_tables.specs.declared.judged.OnRow.{OnRow}
use Rattle.ep_tables.proofs.Opened.{at_key}

-- ---- lists

-- An item of a list with one more is one of the list, or the last.
get_push : {A : Type 0} (xs : List A) (x : A) (i : ℕ) (y : A) → slice_get (xs ++ x ∷ []) i ≡ Some y → (slice_get xs i ≡ Some y) ⊎ ((i ≡ length xs) × (x ≡ y))
get_push [] x zero y is = inr (refl, same_Some x y is)
get_push [] x (suc i) y is = cc is
get_push (z ∷ zs) x zero y is = inl is
get_push (z ∷ zs) x (suc i) y is = elim (get_push zs x i y is) [ inl before ↦ inl before | inr last ↦ inr (ap suc last.0, last.1) ]

-- An item of a list of which one is replaced is the new one, or stands in another place.
get_set : {A : Type 0} (xs : List A) (i : ℕ) (x : A) (j : ℕ) (y : A) → slice_get (set xs i x) j ≡ Some y → ((j ≡ i) × (x ≡ y)) ⊎ ((j ≡ i → ⊥) × (slice_get xs j ≡ Some y))
get_set [] i x j y is = cc is
get_set (z ∷ zs) zero x zero y is = inl (refl, same_Some x y is)
get_set (z ∷ zs) zero x (suc j) y is = inr (λ e. absurd (omega (arith, e)), is)
get_set (z ∷ zs) (suc i) x zero y is = inr (λ e. absurd (omega (arith, e)), is)
get_set (z ∷ zs) (suc i) x (suc j) y is =
    elim (get_set zs i x j y is) [
      | inl here ↦ inl (ap suc here.0, here.1)
      | inr there ↦ inr (λ e. there.0 (omega (arith, e)), there.1)
    ]

-- ---- the threads that stand in places

-- Each stands in the place that its number chooses, with the row that it was given.
abbrev pub AreNear : (ℕ → Option ℕ) → List OnRow → Type 0
AreNear given near = (place : ℕ) (on : OnRow) → slice_get near place ≡ Some on → (on.thread % THREADS ≡ place) × (given on.thread ≡ Some on.row)

-- A thread that is given a row takes its place.
pub near_set : (old new : ℕ → Option ℕ) (near : List OnRow) (on : OnRow) → AreNear old near
    → ((t : ℕ) → new t ≡ cond (is_at (nat_cmp on.thread) t) (Some on.row) (old t)) → AreNear new (set near (on.thread % THREADS) on)
near_set old new near on known is place other at =
    let key : (t : ℕ) → new t ≡ cond (t == on.thread) (Some on.row) (old t) = λ t. is t ∙ ap (λ b. cond b (Some on.row) (old t)) (at_key on.thread t) in
    elim (get_set near (on.thread % THREADS) on place other at) [
      | inl here ↦
          let Stands : OnRow → Type 0 = λ o. (o.thread % THREADS ≡ place) × (new o.thread ≡ Some o.row) in
          subst Stands here.1 (sym here.0, key on.thread ∙ ap (λ b. cond b (Some on.row) (old on.thread)) (eq-eqb on.thread on.thread refl))
      | inr there ↦
          let was = known place other there.1 in
          let apart : (other.thread == on.thread) ≡ false = ne_eqb other.thread on.thread (λ (same : other.thread ≡ on.thread). there.0 (sym was.0 ∙ ap (λ (t : ℕ). t % THREADS) same)) in
          (was.0, key other.thread ∙ ap (λ b. cond b (Some on.row) (old other.thread)) apart ∙ was.1)
    ]

-- ---- the threads that are there from the start

-- So many places have the threads that choose them, each with the row of its number.
abbrev pub AreFirst : List OnRow → Type 0
AreFirst near = (place : ℕ) (on : OnRow) → slice_get near place ≡ Some on → (on.thread % THREADS ≡ place) × (on.row ≡ on.thread) × (is_in_range 1 THREADS on.thread ≡ true)

-- One place more.
pub first_more : (near : List OnRow) (on : OnRow) → AreFirst near → on.thread % THREADS ≡ length near → on.row ≡ on.thread → is_in_range 1 THREADS on.thread ≡ true → AreFirst (near ++ on ∷ [])
first_more near on known chosen row within place other at =
    elim (get_push near on place other at) [
      | inl before ↦ known place other before
      | inr last ↦
          let Stands : OnRow → Type 0 = λ o. (o.thread % THREADS ≡ place) × (o.row ≡ o.thread) × (is_in_range 1 THREADS o.thread ≡ true) in
          subst Stands last.1 (chosen ∙ sym last.0, row, within)
    ]

-- They were given these rows.
pub first_near : (given : ℕ → Option ℕ) (near : List OnRow) → AreFirst near → ((t : ℕ) → given t ≡ (if is_in_range 1 THREADS t then Some t else None)) → AreNear given near
first_near given near known is place on at =
    let first = known place on at in
    (first.0, is on.thread ∙ ap (λ b. if b then Some on.thread else None) first.2 ∙ ap Some (sym first.1))
