-- Lists that grow, or of which one item is replaced or removed.
use Rattle.std.proofs.Common.{◌≡◌, ℕ, zero, suc, ◌-◌, Bool, false, List, [], ◌∷◌, ◌++◌, length, Some, refl, sym, subst, arith, drop, set}
use Rattle.std.specs.Prelude.{remove, slice_get}
use Rattle.std.specs.List.{list_any, AllByRecursion}
use Rattle.std.proofs.lemmas.Bool.{or_parts}
use Rattle.std.proofs.lemmas.List.{length_push, get_or_push}
use Rattle.std.proofs.lemmas.Option.{slice_get_read}

-- ---- lists that grow

-- The item that was added is the last.
pub get_last-push : {A : Type 0} (xs : List A) (x : A) → slice_get (xs ++ x ∷ []) (length (xs ++ x ∷ []) - 1) ≡ Some x
get_last-push xs x =
    let one = length_push xs x in
    let last : length xs ≡ length (xs ++ x ∷ []) - 1 = omega (arith, one) in
    slice_get_read (xs ++ x ∷ []) (length (xs ++ x ∷ [])) (length (xs ++ x ∷ []) - 1) x refl (omega (arith, one)) (sym (get_or_push xs x x (length (xs ++ x ∷ []) - 1) last))

-- What is left behind a front only gets longer.
pub drop-append : {A : Type 0} (from : ℕ) (xs ys : List A) → (more : List A) × (drop from (xs ++ ys) ≡ drop from xs ++ more)
drop-append zero xs ys = (ys, refl)
drop-append (suc from) [] ys = (drop (suc from) ys, refl)
drop-append (suc from) (x ∷ xs) ys = drop-append from xs ys

-- What holds of each item holds once one is replaced by another of which it holds.
pub All-replaced : {A : Type 0} (P : A → Type 0) (xs : List A) (i : ℕ) (was now : A) → slice_get xs i ≡ Some was → (P was → P now) → AllByRecursion P xs → AllByRecursion P (set xs i now)
All-replaced P [] i was now is one all = tt
All-replaced P (x ∷ xs) zero was now is one all = let first : x ≡ was = cc in (one (subst P first all.0), all.1)
All-replaced P (x ∷ xs) (suc i) was now is one all = (all.0, All-replaced P xs i was now is one all.1)

pub All-removed : {A : Type 0} (P : A → Type 0) (xs : List A) (i : ℕ) (was : A) → slice_get xs i ≡ Some was → AllByRecursion P xs → AllByRecursion P (remove xs i)
All-removed P [] i was is all = absurd (cc)
All-removed P (x ∷ xs) zero was is all = all.1
All-removed P (x ∷ xs) (suc i) was is all = (all.0, All-removed P xs i was is all.1)

-- ---- items that are told apart

-- What holds of each item says more of those that pass neither of two tests.
pub All-apart : {A : Type 0} (first second : A → Bool) (P Q : A → Type 0) (xs : List A) → list_any first xs ≡ false → list_any second xs ≡ false
    → ((x : A) → first x ≡ false → second x ≡ false → P x → Q x) → AllByRecursion P xs → AllByRecursion Q xs
All-apart first second P Q [] none off each all = tt
All-apart first second P Q (x ∷ xs) none off each all =
    let n = or_parts (first x) (list_any first xs) none in
    let s = or_parts (second x) (list_any second xs) off in
    (each x n.0 s.0 all.0, All-apart first second P Q xs n.1 s.1 each all.1)
