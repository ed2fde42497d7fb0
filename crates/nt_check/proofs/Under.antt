-- What stands under ids after one is put.
use Rattle.std.proofs.Common.{◌≡◌, ℕ, zero, suc, ◌-◌, ◌<◌, ◌≤◌, Bool, true, false, cond, eqb, leb, inl, inr, List, [], ◌∷◌, length, get_or, Option, Some, None, refl, sym, ap, arith}
use Rattle.std.proofs.lemmas.Bool.{cases_Bool, eqb-true, eqb-false, leb-true, le-leb}
use Rattle.std.proofs.Math.ListN.{set}
use Rattle.std.proofs.lemmas.Bool.Decides.{nat_tests}
use Rattle.std.proofs.lemmas.List.{get_or-set_same, length-set}
use Rattle.std.proofs.lemmas.Option.{slice_get-get_or, slice_get_read, slice_get_within}
use Rattle.std.specs.List.{slice_get}
use Rattle.std.specs.Ordering.{nat_cmp, is_eq}
use Rattle.std.specs.Option.{option_or}
use Rattle.nt_check.specs.state.Ids.{held_in, in_row}

-- What is put in the place of another stands there, and others stay.
pub put-there : {A : Type 0} (xs : List A) (place : ℕ) (before put : A) → slice_get xs place ≡ Some before → slice_get (set xs place put) place ≡ Some put
put-there xs place before put e =
    let within = slice_get_within xs place before e in
    slice_get_read (set xs place put) (length xs) place put (sym (length-set xs place put)) within (sym (get_or-set_same xs place put put within))

pub get-set_other : {A : Type 0} (xs : List A) (place other : ℕ) (x : A) → (place ≡ other → ⊥) → slice_get (set xs place x) other ≡ slice_get xs other
get-set_other [] place other x apart = refl
get-set_other (y ∷ xs) zero zero x apart = absurd (apart refl)
get-set_other (y ∷ xs) zero (suc other) x apart = refl
get-set_other (y ∷ xs) (suc place) zero x apart = refl
get-set_other (y ∷ xs) (suc place) (suc other) x apart = get-set_other xs place other x (λ e. apart (ap suc e))

-- A value more in the row.
pub row-set : {V : Type 0} (first : ℕ) (row : List (Option V)) (id place other : ℕ) (value : V) → first ≤ id → place ≡ id - first → place < length row → in_row first (set row place (Some value)) other ≡ cond (eqb id other) (Some value) (in_row first row other)
row-set first row id place other value above is within =
    elim (cases_Bool (eqb id other)) [
      | inl same ↦ rw same (own other (eqb-true id other same))
      | inr apart ↦ rw apart (elim (cases_Bool (leb first other)) [
        | inl there ↦ rw there (ap held_in (get-set_other row place (other - first) (Some value) (differ there apart)))
        | inr not_there ↦ rw not_there refl
      ])
    ]
  where
    own : (q : ℕ) → id ≡ q → in_row first (set row place (Some value)) q ≡ Some value
    own q same =
        let above_q : first ≤ q = omega (arith, above, same) in
        let place_is : q - first ≡ place = omega (arith, is, same) in
        let there = put-there row place (get_or row place None) (Some value) (slice_get-get_or row place None within) in
        rw (le-leb first q above_q, place_is) (ap held_in there)

    differ : leb first other ≡ true → eqb id other ≡ false → place ≡ other - first → ⊥
    differ there apart e = eqb-false id other apart (omega (arith, leb-true first other there, above, is, e))

-- Numbers are tied exactly where they are equal.
pub tied-is : (a b : ℕ) → is_eq (nat_cmp a b) ≡ eqb a b
tied-is a b = grind (arith, nat_tests)

-- What is put in the row stands before the others.
pub put-row : {V : Type 0} (b : Bool) (value : V) (row others : Option V) → option_or (cond b (Some value) row) others ≡ cond b (Some value) (option_or row others)
put-row true value row others = refl
put-row false value row others = refl

-- What is put among the others stands where the row has nothing.
pub put-other : {V : Type 0} (id other : ℕ) (value : V) (row : ℕ → Option V) (others : Option V) → row id ≡ None → option_or (row other) (cond (eqb id other) (Some value) others) ≡ cond (eqb id other) (Some value) (option_or (row other) others)
put-other id other value row others none =
    elim (cases_Bool (eqb id other)) [
      | inl same ↦ rw same (rw (sym (eqb-true id other same), none) refl)
      | inr apart ↦ rw apart refl
    ]
