-- Numbers in lists that ascend, and what is kept for each of them.
use Rattle.std.proofs.Common.{◌≡◌, ℕ, ◌<◌, Bool, true, false, List, [], ◌∷◌, map, refl, ap, sym, ◌∙◌, subst, arith, if◌then◌else◌}
use Rattle.std.specs.Prelude.{◌||◌, filter, nat_lt, ◌==◌}
use Rattle.std.proofs.lemmas.Bool.{eqb-true, ne_eqb, ltb-true, ltb-false, lt-ltb, le-ltb, or_right, false_from_ne_true, true≢false, false≢true}
use Rattle.ep_model.specs.History.{insert_ascending}
use Rattle.ep_model.proofs.Ascending.{AreAbove, IsAscending, above_less}
use Rattle.ep_model.proofs.Lists.{has, has_first}
use Rattle.ep_stream.specs.declared.opened.Named.{Named}
use Rattle.ep_stream.specs.Named.{insert_by, with_thread}

-- ---- ascending numbers

above_filter : (keep : ℕ → Bool) (n : ℕ) (xs : List ℕ) → AreAbove n xs → AreAbove n (filter keep xs)
above_filter keep n [] above = tt
above_filter keep n (x ∷ xs) above =
    elim (keep x) as (λ v. AreAbove n (if v then x ∷ filter keep xs else filter keep xs))
    [ true ↦ (above.0, above_filter keep n xs above.1) | false ↦ above_filter keep n xs above.1 ]

above_has : (n m : ℕ) (xs : List ℕ) → AreAbove n xs → has m xs ≡ true → n < m
above_has n m [] above is = absurd (false≢true is)
above_has n m (x ∷ xs) above is =
    elim (x == m) as (λ v. (x == m) ≡ v → (v || has m xs) ≡ true → n < m) [
      | true ↦ λ same _. subst (λ k. n < k) (eqb-true x m same) above.0
      | false ↦ λ _ later. above_has n m xs above.1 later
    ] refl is

pub ascending-filter : (keep : ℕ → Bool) (xs : List ℕ) → IsAscending xs → IsAscending (filter keep xs)
ascending-filter keep [] up = tt
ascending-filter keep (x ∷ xs) up =
    elim (keep x) as (λ v. IsAscending (if v then x ∷ filter keep xs else filter keep xs))
    [ true ↦ (above_filter keep x xs up.0, ascending-filter keep xs up.1) | false ↦ ascending-filter keep xs up.1 ]

insert_first : (n : ℕ) (xs : List ℕ) → AreAbove n xs → insert_ascending n xs ≡ n ∷ xs
insert_first n [] above = refl
insert_first n (x ∷ xs) above = ap (λ v. if v then n ∷ x ∷ xs else x ∷ insert_ascending n xs) (lt-ltb n x above.0)

insert_later : (n x : ℕ) (xs : List ℕ) → nat_lt n x ≡ false → insert_ascending n (x ∷ xs) ≡ x ∷ insert_ascending n xs
insert_later n x xs not = ap (λ v. if v then n ∷ x ∷ xs else x ∷ insert_ascending n xs) not

-- A number that stands in the list is no other that does not.
pub has-apart : (x n : ℕ) (xs : List ℕ) → has x xs ≡ false → has n xs ≡ true → (x == n) ≡ false
has-apart x n xs none is = ne_eqb x n (λ same. true≢false (sym is ∙ ap (λ k. has k xs) (sym same) ∙ none))

-- ---- numbers that are kept

filter_first : (keep : ℕ → Bool) (x : ℕ) (xs : List ℕ) → keep x ≡ true → filter keep (x ∷ xs) ≡ x ∷ filter keep xs
filter_first keep x xs is = ap (λ v. if v then x ∷ filter keep xs else filter keep xs) is

filter_later : (keep : ℕ → Bool) (x : ℕ) (xs : List ℕ) → keep x ≡ false → filter keep (x ∷ xs) ≡ filter keep xs
filter_later keep x xs is = ap (λ v. if v then x ∷ filter keep xs else filter keep xs) is

-- A number that is kept, put among others.
pub filter-insert_kept : (keep : ℕ → Bool) (n : ℕ) (xs : List ℕ) → keep n ≡ true → IsAscending xs → filter keep (insert_ascending n xs) ≡ insert_ascending n (filter keep xs)
filter-insert_kept keep n [] kept up = filter_first keep n [] kept
filter-insert_kept keep n (x ∷ xs) kept up =
    let later = filter-insert_kept keep n xs kept up.1 in
    elim (nat_lt n x) as (λ v. nat_lt n x ≡ v → filter keep (if v then n ∷ x ∷ xs else x ∷ insert_ascending n xs) ≡ insert_ascending n (filter keep (x ∷ xs))) [
      | true ↦ λ is.
          let less = ltb-true n x is in
          filter_first keep n (x ∷ xs) kept ∙ sym (insert_first n (filter keep (x ∷ xs)) (above_filter keep n (x ∷ xs) (less, above_less n x xs less up.0)))
      | false ↦ λ is.
          elim (keep x) as (λ v. (if v then x ∷ filter keep (insert_ascending n xs) else filter keep (insert_ascending n xs)) ≡ insert_ascending n (if v then x ∷ filter keep xs else filter keep xs))
          [ true ↦ ap (λ ys. x ∷ ys) later ∙ sym (insert_later n x (filter keep xs) is) | false ↦ later ]
    ] refl

-- One that is not kept, put among others.
pub filter-insert_dropped : (keep : ℕ → Bool) (n : ℕ) (xs : List ℕ) → keep n ≡ false → filter keep (insert_ascending n xs) ≡ filter keep xs
filter-insert_dropped keep n [] dropped = filter_later keep n [] dropped
filter-insert_dropped keep n (x ∷ xs) dropped =
    elim (nat_lt n x) as (λ v. filter keep (if v then n ∷ x ∷ xs else x ∷ insert_ascending n xs) ≡ filter keep (x ∷ xs)) [
      | true ↦ filter_later keep n (x ∷ xs) dropped
      | false ↦ ap (λ ys. if keep x then x ∷ ys else ys) (filter-insert_dropped keep n xs dropped)
    ]

-- Two tests that say the same of each number of the list.
pub filter-same : (p q : ℕ → Bool) (xs : List ℕ) → ((x : ℕ) → has x xs ≡ true → p x ≡ q x) → filter p xs ≡ filter q xs
filter-same p q [] same = refl
filter-same p q (x ∷ xs) same =
    ap (λ ys. if p x then x ∷ ys else ys) (filter-same p q xs (λ y is. same y (or_right (x == y) (has y xs) is)))
    ∙ ap (λ v. if v then x ∷ filter q xs else filter q xs) (same x (has_first x xs))

pub filter-all : (p : ℕ → Bool) (xs : List ℕ) → ((x : ℕ) → has x xs ≡ true → p x ≡ true) → filter p xs ≡ xs
filter-all p [] all = refl
filter-all p (x ∷ xs) all =
    filter_first p x xs (all x (has_first x xs)) ∙ ap (λ ys. x ∷ ys) (filter-all p xs (λ y is. all y (or_right (x == y) (has y xs) is)))

-- What passes a test among those that pass a weaker one.
pub filter-both : (p q : ℕ → Bool) (xs : List ℕ) → ((x : ℕ) → p x ≡ true → q x ≡ true) → filter p (filter q xs) ≡ filter p xs
filter-both p q [] weaker = refl
filter-both p q (x ∷ xs) weaker =
    let later = filter-both p q xs weaker in
    elim (q x) as (λ v. q x ≡ v → filter p (if v then x ∷ filter q xs else filter q xs) ≡ filter p (x ∷ xs)) [
      | true ↦ λ _. ap (λ ys. if p x then x ∷ ys else ys) later
      | false ↦ λ off. later ∙ sym (filter_later p x xs (false_from_ne_true (p x) (λ is. true≢false (sym (weaker x is) ∙ off))))
    ] refl

-- A test that one number of the list passes more.
pub filter-more : (p q : ℕ → Bool) (n : ℕ) (xs : List ℕ) → IsAscending xs → has n xs ≡ true → p n ≡ false → q n ≡ true → ((x : ℕ) → (n == x) ≡ false → q x ≡ p x) → filter q xs ≡ insert_ascending n (filter p xs)
filter-more p q n [] up is off on same = absurd (false≢true is)
filter-more p q n (x ∷ xs) up is off on same =
    elim (x == n) as (λ v. (x == n) ≡ v → (v || has n xs) ≡ true → filter q (x ∷ xs) ≡ insert_ascending n (filter p (x ∷ xs))) [
      | true ↦ λ at _.
          let here : n ≡ x = sym (eqb-true x n at) in
          let above : AreAbove n xs = subst (λ m. AreAbove m xs) (sym here) up.0 in
          let others : filter q xs ≡ filter p xs = filter-same q p xs (λ y there. let less = above_has n y xs above there in same y (ne_eqb n y (λ e. omega arith))) in
          filter_first q x xs (ap q (sym here) ∙ on) ∙ ap (λ m. m ∷ filter q xs) (sym here) ∙ ap (λ ys. n ∷ ys) others
          ∙ sym (insert_first n (filter p xs) (above_filter p n xs above)) ∙ ap (insert_ascending n) (sym (filter_later p x xs (ap p (sym here) ∙ off)))
      | false ↦ λ at there.
          let less = above_has x n xs up.0 there in
          let later = filter-more p q n xs up.1 there off on same in
          let first = same x (ne_eqb n x (λ e. omega arith)) in
          ap (λ v. if v then x ∷ filter q xs else filter q xs) first
          ∙ elim (p x) as (λ v. (if v then x ∷ filter q xs else filter q xs) ≡ insert_ascending n (if v then x ∷ filter p xs else filter p xs))
          [ true ↦ ap (λ ys. x ∷ ys) later ∙ sym (insert_later n x (filter p xs) (le-ltb n x (omega arith))) | false ↦ later ]
    ] refl is

-- ---- what is kept for each number

pub map-same : {A : Type 0} (f g : ℕ → A) (xs : List ℕ) → ((x : ℕ) → has x xs ≡ true → f x ≡ g x) → map f xs ≡ map g xs
map-same f g [] same = refl
map-same f g (x ∷ xs) same =
    ap (λ a. a ∷ map f xs) (same x (has_first x xs)) ∙ ap (λ ys. g x ∷ ys) (map-same f g xs (λ y is. same y (or_right (x == y) (has y xs) is)))

-- The same for each number that passes a test.
pub map-same_kept : {A : Type 0} (f g : ℕ → A) (keep : ℕ → Bool) (xs : List ℕ) → ((x : ℕ) → has x xs ≡ true → keep x ≡ true → f x ≡ g x) → map f (filter keep xs) ≡ map g (filter keep xs)
map-same_kept f g keep [] same = refl
map-same_kept f g keep (x ∷ xs) same =
    let later = map-same_kept f g keep xs (λ y is. same y (or_right (x == y) (has y xs) is)) in
    elim (keep x) as (λ v. keep x ≡ v → map f (if v then x ∷ filter keep xs else filter keep xs) ≡ map g (if v then x ∷ filter keep xs else filter keep xs)) [
      | true ↦ λ is. ap (λ a. a ∷ map f (filter keep xs)) (same x (has_first x xs) is) ∙ ap (λ ys. g x ∷ ys) later
      | false ↦ λ _. later
    ] refl

pub map-mapped : {A B : Type 0} (g : A → B) (f : ℕ → A) (xs : List ℕ) → map g (map f xs) ≡ map (λ x. g (f x)) xs
map-mapped g f [] = refl
map-mapped g f (x ∷ xs) = ap (λ ys. g (f x) ∷ ys) (map-mapped g f xs)

pub filter-mapped : {A : Type 0} (p : A → Bool) (f : ℕ → A) (xs : List ℕ) → filter p (map f xs) ≡ map f (filter (λ x. p (f x)) xs)
filter-mapped p f [] = refl
filter-mapped p f (x ∷ xs) =
    let later = filter-mapped p f xs in
    elim (p (f x)) as (λ v. (if v then f x ∷ filter p (map f xs) else filter p (map f xs)) ≡ map f (if v then x ∷ filter (λ x. p (f x)) xs else filter (λ x. p (f x)) xs))
    [ true ↦ ap (λ ys. f x ∷ ys) later | false ↦ later ]

-- What is kept for a number that is put among others.
pub map-insert : {A : Type 0} (key : A → ℕ) (f : ℕ → A) (n : ℕ) (xs : List ℕ) → ((x : ℕ) → key (f x) ≡ x) → map f (insert_ascending n xs) ≡ insert_by key (f n) (map f xs)
map-insert key f n [] keyed = refl
map-insert key f n (x ∷ xs) keyed =
    let same : nat_lt n x ≡ nat_lt (key (f n)) (key (f x)) = ap (λ m. nat_lt m x) (sym (keyed n)) ∙ ap (nat_lt (key (f n))) (sym (keyed x)) in
    elim (nat_lt n x) as (λ v. map f (if v then n ∷ x ∷ xs else x ∷ insert_ascending n xs) ≡ (if v then f n ∷ f x ∷ map f xs else f x ∷ insert_by key (f n) (map f xs)))
    [ true ↦ refl | false ↦ ap (λ ys. f x ∷ ys) (map-insert key f n xs keyed) ]
    ∙ ap (λ v. if v then f n ∷ f x ∷ map f xs else f x ∷ insert_by key (f n) (map f xs)) same

-- What is kept for one number changes.
pub map-changed : (f g : ℕ → Named) (change : Named → Named) (n : ℕ) (xs : List ℕ) → IsAscending xs → ((x : ℕ) → (f x).thread ≡ x) → g n ≡ change (f n) → ((x : ℕ) → (n == x) ≡ false → g x ≡ f x) → map g xs ≡ with_thread change n (map f xs)
map-changed f g change n [] up keyed at others = refl
map-changed f g change n (x ∷ xs) up keyed at others =
    let first : ℕ → List Named = λ m. if nat_lt m n then f x ∷ with_thread change n (map f xs) else (if nat_lt n m then f x ∷ map f xs else change (f x) ∷ map f xs) in
    let goes : Bool → Bool → List Named = λ v w. if v then f x ∷ with_thread change n (map f xs) else (if w then f x ∷ map f xs else change (f x) ∷ map f xs) in
    let rest : AreAbove n xs → map g xs ≡ map f xs = λ above. map-same g f xs (λ y is. let less = above_has n y xs above is in others y (ne_eqb n y (λ e. omega arith))) in
    elim (nat_lt x n) as (λ v. nat_lt x n ≡ v → map g (x ∷ xs) ≡ goes v (nat_lt n x)) [
      | true ↦ λ is.
          let less = ltb-true x n is in
          ap (λ a. a ∷ map g xs) (others x (ne_eqb n x (λ e. omega arith))) ∙ ap (λ ys. f x ∷ ys) (map-changed f g change n xs up.1 keyed at others)
      | false ↦ λ is.
          let most = ltb-false x n is in
          elim (nat_lt n x) as (λ w. nat_lt n x ≡ w → map g (x ∷ xs) ≡ goes false w) [
            | true ↦ λ over.
                let less = ltb-true n x over in
                ap (λ a. a ∷ map g xs) (others x (ne_eqb n x (λ e. omega arith))) ∙ ap (λ ys. f x ∷ ys) (rest (above_less n x xs less up.0))
            | false ↦ λ over.
                let least = ltb-false n x over in
                let here : n ≡ x = omega arith in
                ap (λ a. a ∷ map g xs) (subst (λ m. g m ≡ change (f m)) here at) ∙ ap (λ ys. change (f x) ∷ ys) (rest (subst (λ m. AreAbove m xs) (sym here) up.0))
          ] refl
    ] refl
    ∙ ap first (sym (keyed x))
