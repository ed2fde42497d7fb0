-- Lists of which one item is replaced or removed.
use Rattle.std.proofs.Common.{◌≡◌, ℕ, zero, suc, Bool, true, false, List, [], ◌∷◌, map, length, Some, refl, ap, sym, ◌∙◌, subst, set}
use Rattle.std.specs.Prelude.{◌||◌, not, filter, slice_get, slice_index_or, remove, ◌==◌}
use Rattle.std.specs.List.{list_any, AllByRecursion}
use Rattle.std.proofs.lemmas.Bool.{eq-eqb, or_parts}
use Rattle.std.proofs.lemmas.Option.{get_or_from_slice_get}
use Rattle.std.proofs.lemmas.List.{set-get_or}
use Rattle.ep_tables.proofs.Lists.{IsDistinct}
use Rattle.ep_model.proofs.Lists.{has, eqb_turn, or_swap}

-- ---- what holds of each item

pub All-each : {A : Type 0} (P Q : A → Type 0) (xs : List A) → ((x : A) → P x → Q x) → AllByRecursion P xs → AllByRecursion Q xs
All-each P Q [] each all = tt
All-each P Q (x ∷ xs) each all = (each x all.0, All-each P Q xs each all.1)

-- ---- one item in the place of another

pub map-set : {A : Type 0} (key : A → ℕ) (xs : List A) (i : ℕ) (old new : A) → slice_get xs i ≡ Some old → key new ≡ key old → map key (set xs i new) ≡ map key xs
map-set key [] i old new is same = refl
map-set key (x ∷ xs) zero old new is same = let first : x ≡ old = cc in ap (λ k. k ∷ map key xs) (same ∙ ap key (sym first))
map-set key (x ∷ xs) (suc i) old new is same = ap (λ ks. key x ∷ ks) (map-set key xs i old new is same)

pub any-set : {A : Type 0} (test : A → Bool) (xs : List A) (i : ℕ) (old new : A) → slice_get xs i ≡ Some old → test new ≡ test old → list_any test (set xs i new) ≡ list_any test xs
any-set test [] i old new is same = refl
any-set test (x ∷ xs) zero old new is same = let first : x ≡ old = cc in ap (λ b. b || list_any test xs) (same ∙ ap test (sym first))
any-set test (x ∷ xs) (suc i) old new is same = ap (λ b. test x || b) (any-set test xs i old new is same)

key_apart : {A : Type 0} (key : A → ℕ) (xs : List A) (i : ℕ) (x : A) (n : ℕ) → slice_get xs i ≡ Some x → has n (map key xs) ≡ false → (key x == n) ≡ false
key_apart key [] i x n is none = cc
key_apart key (y ∷ ys) zero x n is none = let first : y ≡ x = cc in ap (λ z. key z == n) (sym first) ∙ (or_parts (key y == n) _ none).0
key_apart key (y ∷ ys) (suc i) x n is none = key_apart key ys i x n is (or_parts (key y == n) _ none).1

-- Items that are told apart from one by two keys.
pub record Apart {A : Type 0} (number slot : A → ℕ) (old x : A) : Type 0 where
  pub numbers : (number x == number old) ≡ false
  pub slots : (slot x == slot old) ≡ false

All-apart : {A : Type 0} (number slot : A → ℕ) (P Q : A → Type 0) (old : A) (xs : List A) → has (number old) (map number xs) ≡ false → has (slot old) (map slot xs) ≡ false
    → ((x : A) → Apart number slot old x → P x → Q x) → AllByRecursion P xs → AllByRecursion Q xs
All-apart number slot P Q old [] none off each all = tt
All-apart number slot P Q old (x ∷ xs) none off each all =
    let n = or_parts (number x == number old) _ none in
    let s = or_parts (slot x == slot old) _ off in
    (each x (record { numbers = n.0; slots = s.0 }) all.0, All-apart number slot P Q old xs n.1 s.1 each all.1)

-- One item is replaced, and what holds of the others goes on to hold.
pub All-set : {A : Type 0} (number slot : A → ℕ) (P Q : A → Type 0) (xs : List A) (i : ℕ) (old new : A) → slice_get xs i ≡ Some old → IsDistinct (map number xs) → IsDistinct (map slot xs)
    → ((x : A) → Apart number slot old x → P x → Q x) → (P old → Q new) → AllByRecursion P xs → AllByRecursion Q (set xs i new)
All-set number slot P Q [] i old new is numbers slots each one all = cc
All-set number slot P Q (x ∷ xs) zero old new is numbers slots each one all =
    let first : x ≡ old = cc in (
      one (subst P first all.0),
      All-apart number slot P Q old xs (ap (λ z. has (number z) (map number xs)) (sym first) ∙ numbers.0) (ap (λ z. has (slot z) (map slot xs)) (sym first) ∙ slots.0) each all.1,
    )
All-set number slot P Q (x ∷ xs) (suc i) old new is numbers slots each one all = (
  each x (record { numbers = eqb_turn (number old) (number x) (key_apart number xs i old (number x) is numbers.0); slots = eqb_turn (slot old) (slot x) (key_apart slot xs i old (slot x) is slots.0) }) all.0,
  All-set number slot P Q xs i old new is numbers.1 slots.1 each one all.1,
)

-- The same of a list that stays.
pub All-one : {A : Type 0} (number slot : A → ℕ) (P Q : A → Type 0) (xs : List A) (i : ℕ) (old : A) → slice_get xs i ≡ Some old → IsDistinct (map number xs) → IsDistinct (map slot xs)
    → ((x : A) → Apart number slot old x → P x → Q x) → (P old → Q old) → AllByRecursion P xs → AllByRecursion Q xs
All-one number slot P Q xs i old is numbers slots each one all =
    subst (AllByRecursion Q) (ap (set xs i) (sym (get_or_from_slice_get xs i old old is)) ∙ set-get_or xs i old) (All-set number slot P Q xs i old old is numbers slots each one all)

-- ---- one item less

filter_all : (n : ℕ) (xs : List ℕ) → has n xs ≡ false → filter (λ y. not (n == y)) xs ≡ xs
filter_all n [] none = refl
filter_all n (x ∷ xs) none = rw (eqb_turn x n (or_parts (x == n) _ none).0) (ap (λ ys. x ∷ ys) (filter_all n xs (or_parts (x == n) _ none).1))

pub map-remove : {A : Type 0} (key : A → ℕ) (xs : List A) (i : ℕ) (old : A) (n : ℕ) → slice_get xs i ≡ Some old → key old ≡ n → IsDistinct (map key xs) → map key (remove xs i) ≡ filter (λ y. not (n == y)) (map key xs)
map-remove key [] i old n is same distinct = cc
map-remove key (x ∷ xs) zero old n is same distinct =
    let first : x ≡ old = cc in
    let e : key x ≡ n = ap key first ∙ same in
    let F : ℕ → Type 0 = λ m. has m (map key xs) ≡ false in
    let on : (n == key x) ≡ true = eq-eqb n (key x) (sym e) in
    rw on (sym (filter_all n (map key xs) (subst F e distinct.0)))
map-remove key (x ∷ xs) (suc i) old n is same distinct =
    let F : ℕ → Type 0 = λ m. (m == key x) ≡ false in
    let off : (n == key x) ≡ false = subst F same (key_apart key xs i old (key x) is distinct.0) in
    rw off (ap (λ ks. key x ∷ ks) (map-remove key xs i old n is same distinct.1))

pub All-remove : {A : Type 0} (number slot : A → ℕ) (P Q : A → Type 0) (xs : List A) (i : ℕ) (old : A) → slice_get xs i ≡ Some old → IsDistinct (map number xs) → IsDistinct (map slot xs)
    → ((x : A) → Apart number slot old x → P x → Q x) → AllByRecursion P xs → AllByRecursion Q (remove xs i)
All-remove number slot P Q [] i old is numbers slots each all = cc
All-remove number slot P Q (x ∷ xs) zero old is numbers slots each all =
    let first : x ≡ old = cc in
    All-apart number slot P Q old xs (ap (λ z. has (number z) (map number xs)) (sym first) ∙ numbers.0) (ap (λ z. has (slot z) (map slot xs)) (sym first) ∙ slots.0) each all.1
All-remove number slot P Q (x ∷ xs) (suc i) old is numbers slots each all = (
  each x (record { numbers = eqb_turn (number old) (number x) (key_apart number xs i old (number x) is numbers.0); slots = eqb_turn (slot old) (slot x) (key_apart slot xs i old (slot x) is slots.0) }) all.0,
  All-remove number slot P Q xs i old is numbers.1 slots.1 each all.1,
)

pub any-remove : {A : Type 0} (test : A → Bool) (xs : List A) (i : ℕ) (old : A) → slice_get xs i ≡ Some old → list_any test xs ≡ (test old || list_any test (remove xs i))
any-remove test [] i old is = cc
any-remove test (x ∷ xs) zero old is = let first : x ≡ old = cc in ap (λ z. test z || list_any test xs) first
any-remove test (x ∷ xs) (suc i) old is = ap (λ b. test x || b) (any-remove test xs i old is) ∙ or_swap (test x) (test old) _

pub length-remove : {A : Type 0} (xs : List A) (i : ℕ) (old : A) → slice_get xs i ≡ Some old → length xs ≡ suc (length (remove xs i))
length-remove [] i old is = cc
length-remove (x ∷ xs) zero old is = refl
length-remove (x ∷ xs) (suc i) old is = ap suc (length-remove xs i old is)

-- ---- one item in a list with gaps

pub get-set_other : {A : Type 0} (xs : List A) (i j : ℕ) (x d : A) → (j ≡ i → ⊥) → slice_index_or (set xs i x) j d ≡ slice_index_or xs j d
get-set_other [] i j x d off = refl
get-set_other (y ∷ ys) zero zero x d off = absurd (off refl)
get-set_other (y ∷ ys) zero (suc j) x d off = refl
get-set_other (y ∷ ys) (suc i) zero x d off = refl
get-set_other (y ∷ ys) (suc i) (suc j) x d off = get-set_other ys i j x d (λ e. off (ap suc e))
