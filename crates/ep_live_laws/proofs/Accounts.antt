-- What a session had of the threads, and what each call makes of it.
use Rattle.std.proofs.Common.{◌≡◌, ℕ, ◌+◌, ◌<◌, ◌≤◌, true, false, inl, inr, List, [], ◌∷◌, refl, sym, ◌∙◌, subst, arith}
use Rattle.std.specs.Prelude.{◌==◌, if◌then◌else◌, nat_lt}
use Rattle.std.proofs.lemmas.Bool.{cases_eq, eq-eqb, ne_eqb, eqb-true, eqb-false, ltb-true, ltb-false, or_cases, or_left, or_right}
use Rattle.ep_model.specs.History.{insert_ascending}
use Rattle.ep_model.proofs.Ascending.{AreAbove, IsAscending, above_less}
use Rattle.ep_model.proofs.Lists.{any_inserted, has}
use Rattle.ep_live_laws.specs.Tracing.{Account, AreAscending, IsOneOf}

-- ---- changes

-- Nothing was taken of a thread on which the session was just opened.
abbrev pub fresh_account : ℕ → Account
fresh_account from = record { from = from; to = 0; taken = 0; last = 0; is_open = true; is_named = true }

-- The session is opened on a thread.
abbrev pub with_opened : (ℕ → Account) → ℕ → ℕ → ℕ → Account
with_opened accounts thread from t = if t == thread then fresh_account from else accounts t

-- So many of a thread's events are taken, and this was the last number.
abbrev pub with_taken : (ℕ → Account) → ℕ → ℕ → ℕ → ℕ → Account
with_taken accounts thread count last t =
    let account = accounts t in
    record account {
      taken = if t == thread then account.taken + count else account.taken;
      last = if t == thread then last else account.last;
    }

-- The session is closed on a thread that has made so many writes.
abbrev pub with_closed : (ℕ → Account) → ℕ → ℕ → ℕ → Account
with_closed accounts thread to t =
    let account = accounts t in
    record account {
      to = if t == thread then to else account.to;
      is_open = if t == thread then false else account.is_open;
    }

-- A point forgets the threads on which the session is closed.
abbrev pub with_point : (ℕ → Account) → ℕ → Account
with_point accounts t = let account = accounts t in record account { is_named = account.is_open }

-- ---- threads

-- One thread more is put among the others, and these stay.
pub one-here : (n : ℕ) (threads : List ℕ) → IsOneOf (insert_ascending n threads) n
one-here n threads = any_inserted (λ t. t == n) n threads ∙ or_left (n == n) (has n threads) (eq-eqb n n refl)

pub one-more : (n t : ℕ) (threads : List ℕ) → IsOneOf threads t → IsOneOf (insert_ascending n threads) t
one-more n t threads is = any_inserted (λ x. x == t) n threads ∙ or_right (n == t) (has t threads) is

-- One of one thread more is that one or was one before.
pub one-before : (n t : ℕ) (threads : List ℕ) → IsOneOf (insert_ascending n threads) t → (t == n) ≡ false → IsOneOf threads t
one-before n t threads is other =
    elim (or_cases (n == t) (has t threads) (sym (any_inserted (λ x. x == t) n threads) ∙ is)) [
      | inl same ↦ absurd (eqb-false t n other (sym (eqb-true n t same)))
      | inr later ↦ later
    ]

-- A thread that stands in the list is no other that does not.
pub one-apart : (n t : ℕ) (threads : List ℕ) → (IsOneOf threads n → ⊥) → IsOneOf threads t → (t == n) ≡ false
one-apart n t threads none is = ne_eqb t n (λ same. none (subst (IsOneOf threads) same is))

-- ---- threads that ascend

pub ascending-same : (threads : List ℕ) → AreAscending threads → IsAscending threads
ascending-same [] up = tt
ascending-same (t ∷ threads) up = (up.0, ascending-same threads up.1)

-- They ascend with one more in its place.
pub ascending-insert : (n : ℕ) (threads : List ℕ) → (IsOneOf threads n → ⊥) → AreAscending threads → AreAscending (insert_ascending n threads)
ascending-insert n [] none up = (tt, tt)
ascending-insert n (t ∷ threads) none up =
    elim (nat_lt n t) as (λ v. nat_lt n t ≡ v → AreAscending (if v then n ∷ t ∷ threads else t ∷ insert_ascending n threads)) [
      | true ↦ λ is. let less = ltb-true n t is in ((less, above_less n t threads less up.0), up)
      | false ↦ λ is.
          let most = ltb-false n t is in
          let less : t < n = le-apart t n most (λ same. none (or_left (t == n) (has n threads) (eq-eqb t n same))) in
          (above-insert t n threads less up.0, ascending-insert n threads (λ later. none (or_right (t == n) (has n threads) later)) up.1)
    ] refl
  where
    le-apart : (t n : ℕ) → t ≤ n → (t ≡ n → ⊥) → t < n
    le-apart t n most apart = elim (cases_eq t n) [ inl same ↦ absurd (apart same) | inr other ↦ omega (arith, most, other) ]

    above-insert : (t n : ℕ) (xs : List ℕ) → t < n → AreAbove t xs → AreAbove t (insert_ascending n xs)
    above-insert t n [] less above = (less, tt)
    above-insert t n (x ∷ xs) less above =
        elim (nat_lt n x) as (λ v. AreAbove t (if v then n ∷ x ∷ xs else x ∷ insert_ascending n xs))
        [ true ↦ (less, above) | false ↦ (above.0, above-insert t n xs less above.1) ]
