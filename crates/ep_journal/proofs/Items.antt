-- Items by their numbers, where one is added or changed.
use Rattle.std.proofs.Common.{◌≡◌, ◌≢◌, ℕ, zero, suc, ◌+◌, ◌-◌, ◌<◌, ◌≤◌, Bool, true, false, Option, Some, None, List, [], ◌∷◌, ◌++◌, length, get_or, set, slice_get, eqb, refl, ap, sym, ◌∙◌, arith, ◌⊎◌, inl, inr, cond, count_by}
use Rattle.std.proofs.lemmas.Grind.{common_steps}
use Rattle.std.proofs.lemmas.Bool.Decides.{eqb_tells}
use Rattle.std.proofs.lemmas.Option.{slice_get_within, get_or_from_slice_get}
use Rattle.std.proofs.lemmas.List.Sums.{sum_by-set, sum_by_push}
use Rattle.ep_table.proofs.Places.{get-append, get-set, get-set_other}
use Rattle.ep_journal.specs.Items.{item, with_item, passes}

-- What stands in a list with one item more is that one or stood there before.
pub get-snoc-is : {A : Type 0} (xs : List A) (k : ℕ) (x y : A) → slice_get (xs ++ y ∷ []) k ≡ Some x →
    ((k ≡ length xs) × (x ≡ y)) ⊎ (slice_get xs k ≡ Some x)
get-snoc-is [] zero x y e = inl (refl, grind (arith, common_steps))
get-snoc-is [] (suc k) x y e = cc
get-snoc-is (z ∷ xs) zero x y e = inr e
get-snoc-is (z ∷ xs) (suc k) x y e = elim (get-snoc-is xs k x y e) [ inl h ↦ inl (ap suc h.0, h.1) | inr h ↦ inr h ]

pub get-last : {A : Type 0} (xs : List A) (y : A) → slice_get (xs ++ y ∷ []) (length xs) ≡ Some y
get-last [] y = refl
get-last (x ∷ xs) y = get-last xs y

-- ---- the same by numbers from 1

pub item-at : {A : Type 0} (xs : List A) (k : ℕ) → item xs (k + 1) ≡ slice_get xs k
item-at xs k = let e : k + 1 ≡ suc k = omega arith in rw e refl

pub item-within : {A : Type 0} (xs : List A) (n : ℕ) (x : A) → item xs n ≡ Some x → (0 < n) × (n ≤ length xs)
item-within xs zero x e = cc
item-within xs (suc k) x e = let l : k < length xs = slice_get_within xs k x e in (omega arith, omega arith)

pub item-set : {A : Type 0} (xs : List A) (n : ℕ) (x y : A) → item xs n ≡ Some x → item (with_item xs n y) n ≡ Some y
item-set xs zero x y e = cc
item-set xs (suc k) x y e = let p : suc k - 1 ≡ k = omega arith in rw p (get-set xs k y (slice_get_within xs k x e))

pub item-set-other : {A : Type 0} (xs : List A) (n m : ℕ) (x y : A) → item xs n ≡ Some x → m ≢ n → item (with_item xs n y) m ≡ item xs m
item-set-other xs zero m x y e d = cc
item-set-other xs (suc k) zero x y e d = refl
item-set-other xs (suc k) (suc m) x y e d = let p : suc k - 1 ≡ k = omega arith in rw p (get-set_other xs k m y (λ h. d (ap suc h)))

pub item-snoc : {A : Type 0} (xs : List A) (n : ℕ) (x y : A) → item xs n ≡ Some x → item (xs ++ y ∷ []) n ≡ Some x
item-snoc xs zero x y e = cc
item-snoc xs (suc k) x y e = get-append xs (y ∷ []) k x e

pub item-snoc-is : {A : Type 0} (xs : List A) (n : ℕ) (x y : A) → item (xs ++ y ∷ []) n ≡ Some x →
    ((n ≡ length xs + 1) × (x ≡ y)) ⊎ (item xs n ≡ Some x)
item-snoc-is xs zero x y e = cc
item-snoc-is xs (suc k) x y e = elim (get-snoc-is xs k x y e) [ inl h ↦ inl (omega (arith, h.0), h.1) | inr h ↦ inr h ]

pub item-last : {A : Type 0} (xs : List A) (n : ℕ) (y : A) → n ≡ length xs + 1 → item (xs ++ y ∷ []) n ≡ Some y
item-last xs zero y e = absurd (omega arith)
item-last xs (suc k) y e = let p : k ≡ length xs = omega arith in rw p (get-last xs y)

-- An item in the place of another: what is said of the numbers of either.
pub item-set-is : {A : Type 0} (xs : List A) (n m : ℕ) (x y z : A) → item xs n ≡ Some x → item (with_item xs n y) m ≡ Some z →
    ((m ≡ n) × (z ≡ y)) ⊎ ((m ≢ n) × (item xs m ≡ Some z))
item-set-is {A} xs n m x y z e h = by_test (eqb_tells m n)
  where
    by_test : ((eqb m n ≡ true) × (m ≡ n)) ⊎ ((eqb m n ≡ false) × (m ≢ n)) → ((m ≡ n) × (z ≡ y)) ⊎ ((m ≢ n) × (item xs m ≡ Some z))
    by_test (inl t) =
        let there : item (with_item xs n y) n ≡ Some z = ap (item (with_item xs n y)) (sym t.1) ∙ h in
        let same : Some z ≡ Some y = sym there ∙ item-set xs n x y e in inl (t.1, grind (arith, common_steps))
    by_test (inr t) = inr (t.1, sym (item-set-other xs n m x y e t.1) ∙ h)

-- An item that passes still does where another that passes takes a place.
pub passes-set : {A : Type 0} (p : A → Bool) (xs : List A) (n m : ℕ) (x y : A) → item xs n ≡ Some x → (p x ≡ true → p y ≡ true) →
    passes p (item xs m) ≡ true → passes p (item (with_item xs n y) m) ≡ true
passes-set {A} p xs n m x y e keeps h = by_test (eqb_tells m n)
  where
    by_test : ((eqb m n ≡ true) × (m ≡ n)) ⊎ ((eqb m n ≡ false) × (m ≢ n)) → passes p (item (with_item xs n y) m) ≡ true
    by_test (inl t) =
        let was : passes p (item xs n) ≡ true = ap (λ k. passes p (item xs k)) (sym t.1) ∙ h in
        let old : p x ≡ true = rw e at was in
        ap (λ k. passes p (item (with_item xs n y) k)) t.1 ∙ rw (item-set xs n x y e) (keeps old)
    by_test (inr t) = rw (item-set-other xs n m x y e t.1) h

pub passes-snoc : {A : Type 0} (p : A → Bool) (xs : List A) (n : ℕ) (y : A) → passes p (item xs n) ≡ true → passes p (item (xs ++ y ∷ []) n) ≡ true
passes-snoc {A} p xs n y h = by_case (item xs n) refl
  where
    by_case : (o : Option A) → item xs n ≡ o → passes p (item (xs ++ y ∷ []) n) ≡ true
    by_case None e = let f : passes p (item xs n) ≡ false = rw e refl in cc
    by_case (Some x) e = let was : p x ≡ true = rw e at h in rw (item-snoc xs n x y e) was

-- How a count changes where one item does.
pub count-item : {A : Type 0} (p : A → Bool) (xs : List A) (n : ℕ) (x y : A) → item xs n ≡ Some x →
    count_by p (with_item xs n y) + cond (p x) 1 0 ≡ count_by p xs + cond (p y) 1 0
count-item p xs zero x y e = cc
count-item p xs (suc k) x y e =
    let q : suc k - 1 ≡ k = omega arith in
    let g : get_or xs k x ≡ x = get_or_from_slice_get xs k x x e in
    let s = sum_by-set (λ z. cond (p z) 1 0) xs k y x (slice_get_within xs k x e) in
    rw q (rw g at s)

pub count-place : {A : Type 0} (p : A → Bool) (xs : List A) (k : ℕ) (x y : A) → slice_get xs k ≡ Some x →
    count_by p (set xs k y) + cond (p x) 1 0 ≡ count_by p xs + cond (p y) 1 0
count-place p xs k x y e =
    let g : get_or xs k x ≡ x = get_or_from_slice_get xs k x x e in
    let s = sum_by-set (λ z. cond (p z) 1 0) xs k y x (slice_get_within xs k x e) in rw g at s

pub count-snoc : {A : Type 0} (p : A → Bool) (xs : List A) (y : A) → count_by p (xs ++ y ∷ []) ≡ count_by p xs + cond (p y) 1 0
count-snoc p xs y = sum_by_push (λ z. cond (p z) 1 0) xs y
