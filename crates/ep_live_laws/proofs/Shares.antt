-- Contents whose numbers rise, among all contents: what is kept of all of them where the numbers that are not seen are left out.
use Rattle.std.proofs.Common.{◌≡◌, ℕ, zero, suc, ◌+◌, ◌-◌, ◌<◌, ◌≤◌, Bool, true, false, inl, inr, List, [], ◌∷◌, length, filter, Some, refl, ap, ◌∙◌, subst, arith}
use Rattle.std.specs.Prelude.{not, ◌||◌, slice_get, ◌==◌, if◌then◌else◌}
use Rattle.std.specs.List.{list_any, range_with_len, AllByRecursion}
use Rattle.std.proofs.lemmas.Bool.{cases_eq, eq-eqb, ne_eqb}
use Rattle.std.proofs.Math.Bool.{not-not}
use Rattle.ep_model.specs.Faithful.{Contents, is_kept}
use Rattle.ep_live_laws.specs.Traced.{AreRising, AreInPlace, has_number, unseen}

-- ---- numbers

-- The contents have the numbers from this one on.
abbrev pub AreFrom : ℕ → List Contents → Type 0
AreFrom number [] = Unit {0}
AreFrom number (c ∷ contents) = (c.number ≡ number) × AreFrom (number + 1) contents

-- Each of the contents stands among all of them, whose first has this number, at the place that its number says.
abbrev AreAt : ℕ → List Contents → List Contents → Type 0
AreAt first all contents = AllByRecursion (λ c. slice_get all (c.number - first) ≡ Some c) contents

pub rising-up : (below most : ℕ) (contents : List Contents) → AreRising below most contents → below ≤ most
rising-up below most [] rising = rising
rising-up below most (c ∷ contents) rising =
    let first = rising.0 in
    let later = rising-up c.number most contents rising.1 in
    omega arith

pub rising-more : (below most more : ℕ) (contents : List Contents) → most ≤ more → AreRising below most contents → AreRising below more contents
rising-more below most more [] over rising = omega (arith, rising)
rising-more below most more (c ∷ contents) over rising = (rising.0, rising-more c.number most more contents over rising.1)

-- A number that is not above the first is none of theirs.
number-none : (n below most : ℕ) (contents : List Contents) → n ≤ below → AreRising below most contents → has_number n contents ≡ false
number-none n below most [] under rising = refl
number-none n below most (c ∷ contents) under rising =
    let first = rising.0 in
    rw (ne_eqb c.number n (λ same. omega (arith, same)), number-none n c.number most contents (omega arith) rising.1) refl

number-other : (n : ℕ) (c : Contents) (contents : List Contents) → (c.number ≡ n → ⊥) → has_number n (c ∷ contents) ≡ has_number n contents
number-other n c contents apart = ap (λ v. v || has_number n contents) (ne_eqb c.number n apart)

number-first : (n : ℕ) (c : Contents) (contents : List Contents) → c.number ≡ n → has_number n (c ∷ contents) ≡ true
number-first n c contents same = ap (λ v. v || has_number n contents) (eq-eqb c.number n same)

-- ---- what is kept

-- They stand in place behind the first of all.
at-later : (first below most : ℕ) (a : Contents) (rest contents : List Contents) → first ≤ below → AreRising below most contents → AreAt first (a ∷ rest) contents → AreAt (first + 1) rest contents
at-later first below most a rest [] under rising at = tt
at-later first below most a rest (c ∷ contents) under rising at =
    let over = rising.0 in
    let next : c.number - first ≡ suc (c.number - (first + 1)) = omega arith in
    (rw next at at.0, at-later first c.number most a rest contents (omega arith) rising.1 at.1)

filter-in : {A : Type 0} (p : A → Bool) (a : A) (rest : List A) → p a ≡ true → filter p (a ∷ rest) ≡ a ∷ filter p rest
filter-in p a rest is = ap (λ v. if v then a ∷ filter p rest else filter p rest) is

filter-out : {A : Type 0} (p : A → Bool) (a : A) (rest : List A) → p a ≡ false → filter p (a ∷ rest) ≡ filter p rest
filter-out p a rest is = ap (λ v. if v then a ∷ filter p rest else filter p rest) is

-- Of all contents those with the numbers of some are these.
kept-in : (p : ℕ → Bool) (first below most : ℕ) (all contents : List Contents) → first ≡ below + 1 → AreFrom first all → AreRising below most contents → AreAt first all contents
    → ((n : ℕ) → first ≤ n → n < first + length all → p n ≡ has_number n contents)
    → filter (λ a. p a.number) all ≡ contents
kept-in p first below most [] [] e from rising at same = refl
kept-in p first below most [] (c ∷ contents) e from rising at same = cc (at.0)
kept-in p first below most (a ∷ rest) [] e from rising at same =
    let out : p a.number ≡ false = rw from.0 (same first (omega arith) (omega arith)) in
    filter-out (λ (x : Contents). p x.number) a rest out
    ∙ kept-in p (first + 1) first first rest [] refl from.1 (omega arith) tt (λ n low high. same n (omega arith) (omega arith))
kept-in p first below most (a ∷ rest) (c ∷ contents) e from rising at same =
    let over = rising.0 in
    elim (cases_eq c.number first) [
      | inl here ↦
          let zero_is : c.number - first ≡ 0 = omega arith in
          let is : Some a ≡ Some c = rw zero_is at at.0 in
          let a_is : a ≡ c = cc in
          let kept : p a.number ≡ true = rw from.0 (same first (omega arith) (omega arith) ∙ number-first first c contents here) in
          let later : AreRising first most contents = rw here at rising.1 in
          filter-in (λ (x : Contents). p x.number) a rest kept
          ∙ ap (λ xs. a ∷ xs)
          (kept-in p (first + 1) first most rest contents refl from.1 later (at-later first first most a rest contents (omega arith) later at.1)
          (λ n low high. same n (omega arith) (omega arith) ∙ number-other n c contents (λ x. omega arith)))
          ∙ ap (λ x. x ∷ contents) a_is
      | inr other ↦
          let later : AreRising first most (c ∷ contents) = (omega arith, rising.1) in
          let out : p a.number ≡ false = rw from.0 (same first (omega arith) (omega arith) ∙ number-none first first most (c ∷ contents) (omega arith) later) in
          filter-out (λ (x : Contents). p x.number) a rest out
          ∙ kept-in p (first + 1) first most rest (c ∷ contents) refl from.1 later (at-later first first most a rest (c ∷ contents) (omega arith) later at)
          (λ n low high. same n (omega arith) (omega arith))
    ]

-- ---- numbers that are not seen

-- As many numbers are seen as there are contents.
unseen-in : (p : ℕ → Bool) (first below most count : ℕ) (contents : List Contents) → first ≡ below + 1 → AreRising below most contents → most < first + count
    → ((n : ℕ) → first ≤ n → p n ≡ not (has_number n contents))
    → length (filter p (range_with_len first count)) + length contents ≡ count
unseen-in p first below most zero [] e rising within same = refl
unseen-in p first below most zero (c ∷ contents) e rising within same =
    let over = rising.0 in
    let up = rising-up c.number most contents rising.1 in
    absurd (omega arith)
unseen-in p first below most (suc count) [] e rising within same =
    let kept : p first ≡ true = same first (omega arith) in
    let later = unseen-in p (first + 1) first first count [] refl (omega arith) (omega arith) (λ n low. same n (omega arith)) in
    rw kept (omega (arith, later))
unseen-in p first below most (suc count) (c ∷ contents) e rising within same =
    let over = rising.0 in
    elim (cases_eq c.number first) [
      | inl here ↦
          let out : p first ≡ false = same first (omega arith) ∙ ap not (number-first first c contents here) in
          let rest : AreRising first most contents = rw here at rising.1 in
          let later = unseen-in p (first + 1) first most count contents refl rest (omega arith)
          (λ n low. same n (omega arith) ∙ ap not (number-other n c contents (λ x. omega arith))) in
          rw out (omega (arith, later))
      | inr other ↦
          let rest : AreRising first most (c ∷ contents) = (omega arith, rising.1) in
          let kept : p first ≡ true = same first (omega arith) ∙ ap not (number-none first first most (c ∷ contents) (omega arith) rest) in
          let later = unseen-in p (first + 1) first most count (c ∷ contents) refl rest (omega arith) (λ n low. same n (omega arith)) in
          rw kept (omega (arith, later))
    ]

-- The numbers that are not seen are all others.
pub unseen-count : (last : ℕ) (contents : List Contents) → AreRising 0 last contents → length (unseen last contents) + length contents ≡ last
unseen-count last contents rising = unseen-in (λ n. not (has_number n contents)) 1 0 last last contents refl rising (omega arith) (λ n low. refl)

-- A number of the range stands in it where it is kept.
any-range : (p : ℕ → Bool) (m first count : ℕ) → first ≤ m → m < first + count → list_any (λ n. n == m) (filter p (range_with_len first count)) ≡ p m
any-range p m first zero low high = absurd (omega arith)
any-range p m first (suc count) low high =
    elim (cases_eq first m) [
      | inl here ↦ subst (λ n. list_any (λ k. k == n) (if p first then first ∷ filter p (range_with_len (first + 1) count) else filter p (range_with_len (first + 1) count)) ≡ p n) here (any-first p first (first + 1) count (omega arith))
      | inr other ↦
          let later = any-range p m (first + 1) count (omega arith) (omega arith) in
          elim (p first) as (λ v. list_any (λ n. n == m) (if v then first ∷ filter p (range_with_len (first + 1) count) else filter p (range_with_len (first + 1) count)) ≡ p m) [
            | true ↦ ap (λ v. v || list_any (λ n. n == m) (filter p (range_with_len (first + 1) count))) (ne_eqb first m other) ∙ later
            | false ↦ later
          ]
    ]
  where
    any-above : (p : ℕ → Bool) (m first count : ℕ) → m < first → list_any (λ n. n == m) (filter p (range_with_len first count)) ≡ false
    any-above p m first zero above = refl
    any-above p m first (suc count) above =
        let later = any-above p m (first + 1) count (omega arith) in
        elim (p first) as (λ v. list_any (λ n. n == m) (if v then first ∷ filter p (range_with_len (first + 1) count) else filter p (range_with_len (first + 1) count)) ≡ false) [
          | true ↦ ap (λ v. v || list_any (λ n. n == m) (filter p (range_with_len (first + 1) count))) (ne_eqb first m (λ same. omega arith)) ∙ later
          | false ↦ later
        ]

    any-first : (p : ℕ → Bool) (m next count : ℕ) → m < next → list_any (λ n. n == m) (if p m then m ∷ filter p (range_with_len next count) else filter p (range_with_len next count)) ≡ p m
    any-first p m next count above =
        elim (p m) as (λ v. list_any (λ n. n == m) (if v then m ∷ filter p (range_with_len next count) else filter p (range_with_len next count)) ≡ v) [
          | true ↦ ap (λ v. v || list_any (λ n. n == m) (filter p (range_with_len next count))) (eq-eqb m m refl)
          | false ↦ any-above p m next count above
        ]

-- Of all contents, numbered from 1, those are kept whose numbers are seen.
pub unseen-kept : (all contents : List Contents) → AreFrom 1 all → AreRising 0 (length all) contents → AreInPlace all contents → filter (is_kept (unseen (length all) contents)) all ≡ contents
unseen-kept all contents from rising at =
    kept-in (λ m. not (list_any (λ n. n == m) (unseen (length all) contents))) 1 0 (length all) all contents refl from rising at
    (λ n low high. ap not (any-range (λ m. not (has_number m contents)) n 1 (length all) low high) ∙ not-not (has_number n contents))
