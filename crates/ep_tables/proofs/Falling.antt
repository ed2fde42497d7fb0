-- Items whose numbers fall: each number stands once.
use Rattle.std.proofs.Common.{◌≡◌, ℕ, zero, suc, ◌+◌, ◌<◌, ◌≤◌, Bool, true, false, List, [], ◌∷◌, map, length, Some, None, refl, ap, sym, ◌∙◌, subst, arith, if◌then◌else◌}
use Rattle.std.specs.Prelude.{◌&&◌, not, nat_lt, slice_get, slice_set, slice_index_or, position, remove, ◌==◌}
use Rattle.std.specs.List.{position_or_len}
use Rattle.std.proofs.lemmas.Bool.{and_parts, eq-eqb, ne_eqb, lt-ltb, ltb-true}
use Rattle.std.proofs.lemmas.Option.{none-some, same_Some, slice_get_read}
use Rattle.ep_tables.specs.Falling.{falls}

both : (a b : Bool) → a ≡ true → b ≡ true → (a && b) ≡ true
both true b first second = second
both false b first second = first

-- ---- what falls from another bound

falls_from : (low high : ℕ) (numbers : List ℕ) → low ≤ high → falls low numbers ≡ true → falls high numbers ≡ true
falls_from low high [] most falling = refl
falls_from low high (number ∷ numbers) most falling =
    let parts = and_parts (nat_lt number low) (falls number numbers) falling in
    let less = ltb-true number low parts.0 in
    both (nat_lt number high) (falls number numbers) (lt-ltb number high (omega (arith, less, most))) parts.1

-- A larger number comes in front.
pub falls_before : (last number : ℕ) (numbers : List ℕ) → last < number → falls (last + 1) numbers ≡ true → falls (number + 1) (number ∷ numbers) ≡ true
falls_before last number numbers more falling =
    both (nat_lt number (number + 1)) (falls number numbers) (lt-ltb number (number + 1) (omega arith)) (falls_from (last + 1) number numbers (omega (arith, more)) falling)

-- One item makes room for another with its number.
numbers_set : {A : Type 0} (key : A → ℕ) (xs : List A) (place : ℕ) (was now : A) → was ≡ slice_index_or xs place was → key now ≡ key was → map key (slice_set xs place now) ≡ map key xs
numbers_set key [] place was now reads same = refl
numbers_set key (x ∷ xs) zero was now reads same = ap (λ n. n ∷ map key xs) (same ∙ ap key reads)
numbers_set key (x ∷ xs) (suc place) was now reads same = ap (λ ns. key x ∷ ns) (numbers_set key xs place was now reads same)

pub falls_set : {A : Type 0} (key : A → ℕ) (bound : ℕ) (xs : List A) (place : ℕ) (was now : A) → was ≡ slice_index_or xs place was → key now ≡ key was → falls bound (map key xs) ≡ true → falls bound (map key (slice_set xs place now)) ≡ true
falls_set key bound xs place was now reads same falling = ap (falls bound) (numbers_set key xs place was now reads same) ∙ falling

-- An item is taken out.
pub falls_without : {A : Type 0} (key : A → ℕ) (bound : ℕ) (xs : List A) (place : ℕ) → falls bound (map key xs) ≡ true → falls bound (map key (remove xs place)) ≡ true
falls_without key bound [] zero falling = refl
falls_without key bound [] (suc place) falling = refl
falls_without key bound (x ∷ xs) zero falling =
    let parts = and_parts (nat_lt (key x) bound) (falls (key x) (map key xs)) falling in
    let less = ltb-true (key x) bound parts.0 in
    falls_from (key x) bound (map key xs) (omega (arith, less)) parts.1
falls_without key bound (x ∷ xs) (suc place) falling =
    let parts = and_parts (nat_lt (key x) bound) (falls (key x) (map key xs)) falling in
    both (nat_lt (key x) bound) (falls (key x) (map key (remove xs place))) parts.0 (falls_without key (key x) xs place parts.1)

-- ---- where a number stands

-- The number of an item is below the bound.
below : {A : Type 0} (key : A → ℕ) (bound : ℕ) (xs : List A) (place : ℕ) (x : A) → falls bound (map key xs) ≡ true → slice_get xs place ≡ Some x → key x < bound
below key bound [] place x falling there = absurd (none-some x there)
below key bound (y ∷ xs) zero x falling there =
    let first = ltb-true (key y) bound (and_parts (nat_lt (key y) bound) (falls (key y) (map key xs)) falling).0 in
    subst (λ z. key z < bound) (same_Some y x there) first
below key bound (y ∷ xs) (suc place) x falling there =
    let parts = and_parts (nat_lt (key y) bound) (falls (key y) (map key xs)) falling in
    let first = ltb-true (key y) bound parts.0 in
    let later = below key (key y) xs place x parts.1 there in
    omega (arith, first, later)

at_place : {A : Type 0} (key : A → ℕ) (bound number : ℕ) (xs : List A) (place : ℕ) (x : A) → falls bound (map key xs) ≡ true → slice_get xs place ≡ Some x → key x ≡ number
    → (position_or_len (λ y. key y == number) xs ≡ place) × (place < length xs)
at_place key bound number [] place x falling there same = absurd (none-some x there)
at_place key bound number (y ∷ xs) zero x falling there same =
    let on : (key y == number) ≡ true = eq-eqb (key y) number (ap key (same_Some y x there) ∙ same) in
    (ap (λ b. if not b then 1 + position_or_len (λ z. key z == number) xs else 0) on, omega arith)
at_place key bound number (y ∷ xs) (suc place) x falling there same =
    let parts = and_parts (nat_lt (key y) bound) (falls (key y) (map key xs)) falling in
    let later = below key (key y) xs place x parts.1 there in
    let off : (key y == number) ≡ false = ne_eqb (key y) number (λ e. omega (arith, later, same, e)) in
    let rest = at_place key (key y) number xs place x parts.1 there same in
    let found = rest.0 in
    let less = rest.1 in
    let next : position_or_len (λ z. key z == number) (y ∷ xs) ≡ 1 + position_or_len (λ z. key z == number) xs = ap (λ b. if not b then 1 + position_or_len (λ z. key z == number) xs else 0) off in
    (omega (arith, next, found), omega (arith, less))

-- An item that is read at a place is the first with its number.
pub first_there : {A : Type 0} (key : A → ℕ) (bound number : ℕ) (xs ys : List A) (place : ℕ) (x : A) → falls bound (map key xs) ≡ true → ys ≡ xs → nat_lt place (length ys) ≡ true → x ≡ slice_index_or ys place x → key x ≡ number
    → position (λ y. key y == number) xs ≡ Some place
first_there key bound number xs ys place x falling same within reads is =
    let there = slice_get_read ys (length ys) place x refl (ltb-true place (length ys) within) reads in
    let at = at_place key bound number xs place x falling (ap (λ zs. slice_get zs place) (sym same) ∙ there) is in
    ap (λ n. if nat_lt n (length xs) then Some n else None) at.0 ∙ ap (λ b. if b then Some place else None) (lt-ltb place (length xs) at.1)
