-- Tests, and numbers that stand in lists.
use Rattle.std.proofs.Common.{◌≡◌, ℕ, zero, suc, ◌+◌, ◌<◌, ◌≤◌, Bool, true, false, inl, inr, Option, Some, None, List, ◌∷◌, ◌++◌, length, filter, refl, ap, sym, ◌∙◌, subst, arith, []}
use Rattle.std.specs.Prelude.{◌&&◌, ◌||◌, is_some, nat_lt, nat_le, ◌==◌, if◌then◌else◌}
use Rattle.std.specs.List.{list_any, list_all, range_with_len, AllByRecursion}
use Rattle.std.proofs.lemmas.Bool.{cases_eq, eqb-true, eqb-false, ne_eqb, le-leb, eq-eqb, and_parts, and_from, or_cases, or_parts, or_left, or_right, false_from_ne_true, true≢false}
use Rattle.ep_model.specs.History.{insert_ascending}

-- ---- tests

-- Two tests that follow from each other.
pub same_bools : (a b : Bool) → (a ≡ true → b ≡ true) → (b ≡ true → a ≡ true) → a ≡ b
same_bools true true f g = refl
same_bools false false f g = refl
same_bools true false f g = sym (f refl)
same_bools false true f g = g refl

-- One of two tests passes, and another in the place of the second.
pub or_more : (a b c : Bool) → (b ≡ true → c ≡ true) → (a || b) ≡ true → (a || c) ≡ true
or_more true b c more h = refl
or_more false b c more h = more h

-- Of three tests the first two can change places.
pub or_swap : (a b c : Bool) → (a || (b || c)) ≡ (b || (a || c))
or_swap true true c = refl
or_swap true false c = refl
or_swap false true c = refl
or_swap false false c = refl

-- Where two of three fail together, so do all three.
pub and_more : (a b c : Bool) → (a && b) ≡ false → (a && b && c) ≡ false
and_more false b c off = refl
and_more true false c off = refl
and_more true true c off = cc

-- What is not there is nothing.
pub none_is : {A : Type 0} (o : Option A) → is_some o ≡ false → o ≡ None
none_is None is = refl
none_is (Some x) is = cc

-- Numbers that differ differ either way round.
pub eqb_turn : (a b : ℕ) → (a == b) ≡ false → (b == a) ≡ false
eqb_turn a b off = ne_eqb b a (λ same. eqb-false a b off (sym same))

-- What holds of two numbers holds of two that are the same.
pub at_pair : (P : ℕ → ℕ → Type 0) (s t session thread : ℕ) → P s t → ((s == session) && (t == thread)) ≡ true → P session thread
at_pair P s t session thread holds both =
    let parts = and_parts (s == session) (t == thread) both in
    subst (λ n. P n thread) (eqb-true s session parts.0) (subst (λ m. P s m) (eqb-true t thread parts.1) holds)

-- A test that two numbers pass and two others fail.
pub off_pair : (P : ℕ → ℕ → Bool) (s t session thread : ℕ) → P s t ≡ true → P session thread ≡ false → ((s == session) && (t == thread)) ≡ false
off_pair P s t session thread is none =
    false_from_ne_true ((s == session) && (t == thread)) (λ both. true≢false (sym (at_pair (λ n m. P n m ≡ true) s t session thread is both) ∙ none))

-- ---- lists

-- The number stands in the list.
abbrev pub has : ℕ → List ℕ → Bool
has n xs = list_any (λ x. x == n) xs

-- It stands in a range that it is in.
pub has_within : (n first count : ℕ) → first ≤ n → n < first + count → has n (range_with_len first count) ≡ true
has_within n first zero low high = absurd (omega arith)
has_within n first (suc count) low high =
    elim (cases_eq first n) [
      | inl same ↦ or_left (first == n) (has n (range_with_len (first + 1) count)) (eq-eqb first n same)
      | inr other ↦ or_right (first == n) (has n (range_with_len (first + 1) count)) (has_within n (first + 1) count (omega arith) (omega arith))
    ]

-- What passes a test passes a weaker one.
pub any_more : {A : Type 0} (p q : A → Bool) → ((x : A) → p x ≡ true → q x ≡ true) → (xs : List A) → list_any p xs ≡ true → list_any q xs ≡ true
any_more p q more [] h = h
any_more p q more (x ∷ xs) h =
    elim (or_cases (p x) (list_any p xs) h) [ inl first ↦ or_left (q x) (list_any q xs) (more x first) | inr later ↦ or_right (q x) (list_any q xs) (any_more p q more xs later) ]

-- A number of the list passes.
pub any_of : (p : ℕ → Bool) (n : ℕ) (xs : List ℕ) → p n ≡ true → has n xs ≡ true → list_any p xs ≡ true
any_of p n xs passes is = any_more (λ x. x == n) p (λ x same. ap p (eqb-true x n same) ∙ passes) xs is

-- A number of the list is kept and passes.
pub any_kept : (keep test : ℕ → Bool) (n : ℕ) (xs : List ℕ) → keep n ≡ true → test n ≡ true → has n xs ≡ true → list_any test (filter keep xs) ≡ true
any_kept keep test n [] kept passes is = is
any_kept keep test n (x ∷ xs) kept passes is =
    elim (or_cases (x == n) (has n xs) is) [
      | inl same ↦ rw (eqb-true x n same, kept, passes) refl
      | inr later ↦
          let rest = any_kept keep test n xs kept passes later in
          elim (keep x) as (λ v. list_any test (if v then x ∷ filter keep xs else filter keep xs) ≡ true)
          [ true ↦ or_right (test x) _ rest | false ↦ rest ]
    ]

-- A number above all others is none of them.
pub above_none : (n : ℕ) (xs : List ℕ) → list_any (λ x. nat_le n x) xs ≡ false → has n xs ≡ false
above_none n [] none = refl
above_none n (x ∷ xs) none =
    let off = or_parts (nat_le n x) (list_any (λ y. nat_le n y) xs) none in
    let apart : (x == n) ≡ false = ne_eqb x n (λ same. true≢false (sym (le-leb n x (omega arith)) ∙ off.0)) in
    ap (λ v. v || has n xs) apart ∙ above_none n xs off.1

-- What passes one test passes a weaker one.
pub all_more : {A : Type 0} (p q : A → Bool) → ((x : A) → p x ≡ true → q x ≡ true) → (xs : List A) → list_all p xs ≡ true → list_all q xs ≡ true
all_more p q more [] h = refl
all_more p q more (x ∷ xs) h =
    let parts = and_parts (p x) (list_all p xs) h in and_from (q x) (list_all q xs) (more x parts.0) (all_more p q more xs parts.1)

-- The first of a list stands in it.
pub has_first : (x : ℕ) (xs : List ℕ) → has x (x ∷ xs) ≡ true
has_first x xs = or_left (x == x) (has x xs) (eq-eqb x x refl)

-- What holds of each of two lists holds of both.
pub each-append : {A : Type 0} (P : A → Type 0) (xs ys : List A) → AllByRecursion P xs → AllByRecursion P ys → AllByRecursion P (xs ++ ys)
each-append P [] ys first later = later
each-append P (x ∷ xs) ys first later = (first.0, each-append P xs ys first.1 later)

-- What holds of each of a list holds of each of its front.
pub each-front : {A : Type 0} (P : A → Type 0) (xs ys : List A) → AllByRecursion P (xs ++ ys) → AllByRecursion P xs
each-front P [] ys all = tt
each-front P (x ∷ xs) ys all = (all.0, each-front P xs ys all.1)

-- ---- a number that is inserted

-- It is one more of the list.
pub any_inserted : (p : ℕ → Bool) (n : ℕ) (ms : List ℕ) → list_any p (insert_ascending n ms) ≡ (p n || list_any p ms)
any_inserted p n [] = refl
any_inserted p n (m ∷ ms) =
    elim (nat_lt n m) as (λ b. list_any p (if b then n ∷ m ∷ ms else m ∷ insert_ascending n ms) ≡ (p n || (p m || list_any p ms)))
    [ true ↦ refl | false ↦ ap (λ t. p m || t) (any_inserted p n ms) ∙ or_swap (p m) (p n) (list_any p ms) ]

-- The list is longer by it.
pub length_inserted : (n : ℕ) (ms : List ℕ) → length (insert_ascending n ms) ≡ length ms + 1
length_inserted n [] = refl
length_inserted n (m ∷ ms) =
    let more = length_inserted n ms in
    elim (nat_lt n m) as (λ b. length (if b then n ∷ m ∷ ms else m ∷ insert_ascending n ms) ≡ length (m ∷ ms) + 1) [ true ↦ omega arith | false ↦ omega arith ]
