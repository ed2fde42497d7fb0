-- Ascending numbers: two such lists with the same numbers are one, and std's ordered keys ascend.
use Rattle.std.proofs.Common.{◌≡◌, ℕ, ◌<◌, Bool, true, false, cond, eqb, inl, inr, List, [], ◌∷◌, fold, refl, sym, ap, ◌∙◌, arith}
use Rattle.std.specs.Prelude.{◌||◌}
use Rattle.std.specs.List.{list_any}
use Rattle.std.specs.Ordering.{nat_cmp, eq_by_cmp}
use Rattle.std.specs.BTreeSet.{insert_key}
use Rattle.std.proofs.lemmas.Bool.{cases_Bool, cases_eq, cases_order, eq-eqb, ne_eqb, lt-ltb, le-ltb, eqb-true}
use Rattle.std.proofs.Math.Bool.{or-false}
use Rattle.ep_model.proofs.Ascending.{AreAbove, IsAscending, above_less}
use Rattle.ep_model.proofs.Lists.{has, has_first, or_swap}
use Rattle.pt_report.specs.Order.{with_key, in_order}

not_above : (n : ℕ) (xs : List ℕ) → AreAbove n xs → has n xs ≡ false
not_above n [] above = refl
not_above n (x ∷ xs) above = let lt = above.0 in rw (ne_eqb x n (λ e. omega arith)) (not_above n xs above.1)

-- A number below the first stands nowhere.
below_first : (n x : ℕ) (xs : List ℕ) → n < x → AreAbove x xs → has n (x ∷ xs) ≡ false
below_first n x xs lt above = not_above n (x ∷ xs) (lt, above_less n x xs lt above)

after_first : (n x : ℕ) (xs ys : List ℕ) → AreAbove x xs → AreAbove x ys → has n (x ∷ xs) ≡ has n (x ∷ ys) → has n xs ≡ has n ys
after_first n x xs ys a b same =
    elim (cases_eq x n) [
      | inl here ↦ let first : has x xs ≡ has x ys = not_above x xs a ∙ sym (not_above x ys b) in rw (← here) first
      | inr other ↦ rw (ne_eqb x n other) at same
    ]

pub one_order : (xs ys : List ℕ) → IsAscending xs → IsAscending ys → ((n : ℕ) → has n xs ≡ has n ys) → xs ≡ ys
one_order [] [] a b same = refl
one_order [] (y ∷ ys) a b same = let e = same y in let here = has_first y ys in absurd (cc)
one_order (x ∷ xs) [] a b same = let e = same x in let here = has_first x xs in absurd (cc)
one_order (x ∷ xs) (y ∷ ys) a b same =
    elim (cases_order x y) [
      | inl e ↦
          let above : AreAbove x ys = rw e b.0 in
          let rest = one_order xs ys a.1 b.1 (λ n. after_first n x xs ys a.0 above (rw (← e) at (same n))) in
          ap (λ z. z ∷ xs) e ∙ ap (λ (zs : List ℕ). y ∷ zs) rest
      | inr (inl lt) ↦ let e = same x in let here = has_first x xs in let there = below_first x y ys lt b.0 in absurd (cc)
      | inr (inr gt) ↦ let e = same y in let here = has_first y ys in let there = below_first y x xs gt a.0 in absurd (cc)
    ]

-- ---- std's ordered keys

or_twice : (a b c : Bool) → ((a || b) || c) ≡ (b || (a || c))
or_twice true true c = refl
or_twice true false c = refl
or_twice false true c = refl
or_twice false false c = refl

or_same : (a b : Bool) → (a || b) ≡ (a || (a || b))
or_same true b = refl
or_same false b = refl

tied : (key x : ℕ) → eq_by_cmp nat_cmp key x ≡ eqb x key
tied key x =
    elim (cases_order key x) [
      | inl e ↦ rw (e, le-ltb x x (omega arith), eq-eqb x x refl) refl
      | inr (inl lt) ↦ rw (lt-ltb key x lt, ne_eqb x key (λ e. omega arith)) refl
      | inr (inr gt) ↦ rw (le-ltb key x (omega arith), ne_eqb key x (λ e. omega arith), ne_eqb x key (λ e. omega arith)) refl
    ]

tied_any : (key : ℕ) (keys : List ℕ) → list_any (eq_by_cmp nat_cmp key) keys ≡ has key keys
tied_any key [] = refl
tied_any key (x ∷ keys) = ap (λ b. b || list_any (eq_by_cmp nat_cmp key) keys) (tied key x) ∙ ap (λ b. eqb x key || b) (tied_any key keys)

has-insert_key : (n key : ℕ) (keys : List ℕ) → has n (insert_key nat_cmp keys key) ≡ (eqb key n || has n keys)
has-insert_key n key [] = refl
has-insert_key n key (x ∷ keys) =
    elim (cases_order key x) [
      | inl e ↦ rw (e, le-ltb x x (omega arith), eq-eqb x x refl) (or_same (eqb x n) (has n keys))
      | inr (inl lt) ↦ rw (lt-ltb key x lt) refl
      | inr (inr gt) ↦
          rw (le-ltb key x (omega arith), ne_eqb key x (λ e. omega arith))
          (ap (λ b. eqb x n || b) (has-insert_key n key keys) ∙ or_swap (eqb x n) (eqb key n) (has n keys))
    ]

above-insert_key : (low key : ℕ) (keys : List ℕ) → low < key → AreAbove low keys → AreAbove low (insert_key nat_cmp keys key)
above-insert_key low key [] lt above = (lt, tt)
above-insert_key low key (x ∷ keys) lt above =
    elim (cases_order key x) [
      | inl e ↦ rw (e, le-ltb x x (omega arith), eq-eqb x x refl) above
      | inr (inl less) ↦ rw (lt-ltb key x less) (lt, above)
      | inr (inr gt) ↦ rw (le-ltb key x (omega arith), ne_eqb key x (λ e. omega arith)) (above.0, above-insert_key low key keys lt above.1)
    ]

ascends-insert_key : (key : ℕ) (keys : List ℕ) → IsAscending keys → IsAscending (insert_key nat_cmp keys key)
ascends-insert_key key [] a = (tt, tt)
ascends-insert_key key (x ∷ keys) a =
    elim (cases_order key x) [
      | inl e ↦ rw (e, le-ltb x x (omega arith), eq-eqb x x refl) a
      | inr (inl lt) ↦ rw (lt-ltb key x lt) ((lt, above_less key x keys lt a.0), a)
      | inr (inr gt) ↦ rw (le-ltb key x (omega arith), ne_eqb key x (λ e. omega arith)) (above-insert_key x key keys gt a.0, ascends-insert_key key keys a.1)
    ]

has-with_key : (n key : ℕ) (keys : List ℕ) → has n (with_key nat_cmp keys key) ≡ (eqb key n || has n keys)
has-with_key n key keys =
    elim (cases_Bool (has key keys)) [
      | inl there ↦ rw (tied_any key keys, there) (known (eqb key n) refl there)
      | inr absent ↦ rw (tied_any key keys, absent) (has-insert_key n key keys)
    ]
  where
    known : (b : Bool) → eqb key n ≡ b → has key keys ≡ true → has n keys ≡ (b || has n keys)
    known true e there = ap (λ m. has m keys) (sym (eqb-true key n e)) ∙ there
    known false e there = refl

ascends-with_key : (key : ℕ) (keys : List ℕ) → IsAscending keys → IsAscending (with_key nat_cmp keys key)
ascends-with_key key keys a =
    elim (list_any (eq_by_cmp nat_cmp key) keys) as (λ b. IsAscending (cond b keys (insert_key nat_cmp keys key))) [ true ↦ a | false ↦ ascends-insert_key key keys a ]

ascends-from : (names keys : List ℕ) → IsAscending keys → IsAscending (fold (with_key nat_cmp) keys names)
ascends-from [] keys a = a
ascends-from (name ∷ names) keys a = ascends-from names (with_key nat_cmp keys name) (ascends-with_key name keys a)

has-from : (n : ℕ) (names keys : List ℕ) → has n (fold (with_key nat_cmp) keys names) ≡ (has n keys || has n names)
has-from n [] keys = sym (or-false (has n keys))
has-from n (name ∷ names) keys =
    has-from n names (with_key nat_cmp keys name)
    ∙ ap (λ b. b || has n names) (has-with_key n name keys)
    ∙ or_twice (eqb name n) (has n keys) (has n names)

pub in_order-ascends : (names : List ℕ) → IsAscending (in_order nat_cmp names)
in_order-ascends names = ascends-from names [] tt

pub has-in_order : (n : ℕ) (names : List ℕ) → has n (in_order nat_cmp names) ≡ has n names
has-in_order n names = has-from n names []
