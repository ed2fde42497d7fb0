-- Numbers in lists.
use Rattle.std.proofs.Common.{◌≡◌, ℕ, zero, suc, ◌+◌, ◌<◌, ◌≤◌, Bool, true, false, List, [], ◌∷◌, map, length, refl, ap, sym, ◌∙◌, subst, arith, if◌then◌else◌}
use Rattle.std.specs.Prelude.{◌&&◌, ◌||◌, ◌++◌, not, filter, ◌==◌}
use Rattle.std.specs.List.{range_with_len}
use Rattle.std.proofs.lemmas.Bool.{eqb-true, eq-eqb, ne_eqb, and_right, or_from, or_left, or_right, false≢true, not_from_false}
use Rattle.std.proofs.Math.Bool.{or_assoc}
use Rattle.ep_model.proofs.Lists.{has}

-- No number stands twice.
abbrev pub IsDistinct : List ℕ → Type 0
IsDistinct [] = Unit {0}
IsDistinct (x ∷ xs) = (has x xs ≡ false) × IsDistinct xs

and_none : (x y : Bool) → (x && false) ≡ (y && false)
and_none true true = refl
and_none true false = refl
and_none false true = refl
and_none false false = refl

-- Two numbers are the same, so tests of them are.
pub at_same : (f : ℕ → Bool) (a b : ℕ) → (f a && (a == b)) ≡ (f b && (a == b))
at_same f a b =
    elim (a == b) as (λ v. (a == b) ≡ v → (f a && v) ≡ (f b && v)) [
      | true ↦ λ e. ap (λ n. f n && true) (eqb-true a b e)
      | false ↦ λ e. and_none (f a) (f b)
    ] refl

both_known : (fn s la lx : Bool) → la ≡ (fn && lx) → s ≡ (fn && s) → (s || la) ≡ (fn && (s || lx))
both_known true s la lx e h = ap (λ b. s || b) e
both_known false true la lx e h = cc
both_known false false la lx e h = e

none_known : (fn s la lx : Bool) → la ≡ (fn && lx) → false ≡ (fn && s) → la ≡ (fn && (s || lx))
none_known true true la lx e h = cc
none_known true false la lx e h = e
none_known false s la lx e h = e

-- A number is among those that pass a test, exactly where it is among all and passes.
pub has-filter : (f : ℕ → Bool) (n : ℕ) (xs : List ℕ) → has n (filter f xs) ≡ (f n && has n xs)
has-filter f n [] = elim (f n) as (λ v. false ≡ (v && false)) [ true ↦ refl | false ↦ refl ]
has-filter f n (x ∷ xs) =
    let same : (f x && (x == n)) ≡ (f n && (x == n)) = at_same f x n in
    elim (f x) as (λ v. f x ≡ v → has n (if v then x ∷ filter f xs else filter f xs) ≡ (f n && ((x == n) || has n xs))) [
      | true ↦ λ is. both_known (f n) (x == n) _ _ (has-filter f n xs) (ap (λ b. b && (x == n)) (sym is) ∙ same)
      | false ↦ λ is. none_known (f n) (x == n) _ _ (has-filter f n xs) (ap (λ b. b && (x == n)) (sym is) ∙ same)
    ] refl

pub has-append : (n : ℕ) (xs ys : List ℕ) → has n (xs ++ ys) ≡ (has n xs || has n ys)
has-append n [] ys = refl
has-append n (x ∷ xs) ys = ap (λ b. (x == n) || b) (has-append n xs ys) ∙ sym (or_assoc (x == n) (has n xs) (has n ys))

pub distinct-filter : (f : ℕ → Bool) (xs : List ℕ) → IsDistinct xs → IsDistinct (filter f xs)
distinct-filter f [] d = tt
distinct-filter f (x ∷ xs) d =
    elim (f x) as (λ v. IsDistinct (if v then x ∷ filter f xs else filter f xs)) [
      | true ↦ (has-filter f x xs ∙ and_right (f x) _ d.0, distinct-filter f xs d.1)
      | false ↦ distinct-filter f xs d.1
    ]

-- ---- how many there are

filter_most : (f : ℕ → Bool) (xs : List ℕ) → length (filter f xs) ≤ length xs
filter_most f [] = omega arith
filter_most f (x ∷ xs) =
    elim (f x) as (λ v. length (if v then x ∷ filter f xs else filter f xs) ≤ suc (length xs)) [
      | true ↦ let most = filter_most f xs in omega arith
      | false ↦ let most = filter_most f xs in omega arith
    ]

-- All but one are fewer.
fewer : (n : ℕ) (xs : List ℕ) → has n xs ≡ true → length (filter (λ x. not (x == n)) xs) < length xs
fewer n [] is = absurd (false≢true is)
fewer n (x ∷ xs) is =
    elim (x == n) as (λ v. (v || has n xs) ≡ true → length (if not v then x ∷ filter (λ x. not (x == n)) xs else filter (λ x. not (x == n)) xs) < suc (length xs)) [
      | true ↦ λ _. let most = filter_most (λ x. not (x == n)) xs in omega arith
      | false ↦ λ h. let more = fewer n xs h in omega arith
    ] is

both_true : (a b c : Bool) → a ≡ true → b ≡ true → c ≡ (a && b) → c ≡ true
both_true true true c x y e = e
both_true true false c x y e = cc
both_true false b c x y e = cc

-- A number that stands in the list is no other that does not.
apart : (x n : ℕ) (xs : List ℕ) → has x xs ≡ false → has n xs ≡ true → (n == x) ≡ false
apart x n xs none is =
    elim (n == x) as (λ v. (n == x) ≡ v → v ≡ false) [
      | true ↦ λ same. let P : ℕ → Type 0 = λ m. has m xs ≡ true in absurd (false≢true (sym none ∙ subst P (eqb-true n x same) is))
      | false ↦ λ _. refl
    ] refl

-- Numbers that differ, and all stand in another list, are at most as many.
pub pigeons : (xs ys : List ℕ) → IsDistinct xs → ((n : ℕ) → has n xs ≡ true → has n ys ≡ true) → length xs ≤ length ys
pigeons [] ys d all = omega arith
pigeons (x ∷ xs) ys d all =
    let here : has x ys ≡ true = all x (or_left (x == x) (has x xs) (eq-eqb x x refl)) in
    let others : length xs ≤ length (filter (λ y. not (y == x)) ys) = pigeons xs (filter (λ y. not (y == x)) ys) d.1 (λ n is.
    both_true (not (n == x)) (has n ys) _ (not_from_false (n == x) (apart x n xs d.0 is)) (all n (or_right (x == n) (has n xs) is)) (has-filter (λ y. not (y == x)) n ys)) in
    let less = fewer x ys here in
    omega arith

-- ---- numbers in a row

pub has-range : (n a count : ℕ) → n < a → has n (range_with_len a count) ≡ false
has-range n a zero less = refl
has-range n a (suc count) less = or_from (a == n) _ (ne_eqb a n (λ same. omega arith)) (has-range n (a + 1) count (omega arith))

pub range-distinct : (a count : ℕ) → IsDistinct (range_with_len a count)
range-distinct a zero = tt
range-distinct a (suc count) = (has-range a (a + 1) count (omega arith), range-distinct (a + 1) count)

-- ---- numbers that are mapped

-- One that is mapped to this number stands in the list.
pub record Source (f : ℕ → ℕ) (n : ℕ) (xs : List ℕ) : Type 0 where
  pub source : ℕ
  pub is : f source ≡ n
  pub there : has source xs ≡ true

pub source_of : (f : ℕ → ℕ) (n : ℕ) (xs : List ℕ) → has n (map f xs) ≡ true → Source f n xs
source_of f n [] is = absurd (false≢true is)
source_of f n (x ∷ xs) is =
    elim (f x == n) as (λ v. (f x == n) ≡ v → (v || has n (map f xs)) ≡ true → Source f n (x ∷ xs)) [
      | true ↦ λ same _. record { source = x; is = eqb-true (f x) n same; there = or_left (x == x) (has x xs) (eq-eqb x x refl) }
      | false ↦ λ _ h. let more = source_of f n xs h in record { source = more.source; is = more.is; there = or_right (x == more.source) (has more.source xs) more.there }
    ] refl is

-- What is mapped back stays apart.
pub distinct-map : (f g : ℕ → ℕ) (xs : List ℕ) → ((n : ℕ) → has n xs ≡ true → g (f n) ≡ n) → IsDistinct xs → IsDistinct (map f xs)
distinct-map f g [] back d = tt
distinct-map f g (x ∷ xs) back d =
    let more : (n : ℕ) → has n xs ≡ true → g (f n) ≡ n = λ n is. back n (or_right (x == n) (has n xs) is) in (
      elim (has (f x) (map f xs)) as (λ v. has (f x) (map f xs) ≡ v → v ≡ false) [
        | true ↦ λ is.
            let s = source_of f (f x) xs is in
            let P : ℕ → Type 0 = λ m. has m xs ≡ true in
            let same : s.source ≡ x = sym (more s.source s.there) ∙ ap g s.is ∙ back x (or_left (x == x) (has x xs) (eq-eqb x x refl)) in
            absurd (false≢true (sym d.0 ∙ subst P same s.there))
        | false ↦ λ _. refl
      ] refl,
      distinct-map f g xs more d.1,
    )
