-- Bytes that are compared as numbers.
use Rattle.std.proofs.Common.{◌≡◌, ℕ, zero, suc, ◌<◌, List, [], ◌∷◌, length, nat_eq, refl, ap, arith, get_or}
use Rattle.std.specs.Bool.{Decides}
use Rattle.std.specs.Cmp.{unsigned_Decides}
use Rattle.std.specs.Cmp.Lexicographic.{pointwise, bytes_decides}
use Rattle.std.proofs.lemmas.Bool.Decides.{same_from_decides}
use Rattle.byteorder.specs.Endian.{little_from, little_number}
use Rattle.byteorder.specs.Numbers.{little_from-cons}

-- Bytes of the same number are the same.
same_bytes : (n : ℕ) (xs ys : List ℕ) → length xs ≡ n → length ys ≡ n → ((i : ℕ) → get_or xs i 0 < 256) → ((i : ℕ) → get_or ys i 0 < 256) → little_from 0 n xs ≡ little_from 0 n ys → xs ≡ ys
same_bytes zero [] [] long long_too fits fits_too e = refl
same_bytes zero (x ∷ xs) ys long long_too fits fits_too e = absurd (omega (arith, long))
same_bytes zero [] (y ∷ ys) long long_too fits fits_too e = absurd (omega (arith, long_too))
same_bytes (suc n) [] ys long long_too fits fits_too e = absurd (omega (arith, long))
same_bytes (suc n) (x ∷ xs) [] long long_too fits fits_too e = absurd (omega (arith, long_too))
same_bytes (suc n) (x ∷ xs) (y ∷ ys) long long_too fits fits_too e =
    let left = little_from-cons 0 n x xs in
    let right = little_from-cons 0 n y ys in
    let first : x ≡ y = omega (arith, e, left, right, fits 0, fits_too 0) in
    let others : little_from 0 n xs ≡ little_from 0 n ys = omega (arith, e, left, right, fits 0, fits_too 0) in
    let rest = same_bytes n xs ys (omega (arith, long)) (omega (arith, long_too)) (λ i. fits (suc i)) (λ i. fits_too (suc i)) others in
    rw (first, rest) refl

-- Their numbers tell whether they are the same.
pub same_numbers : (n : ℕ) (xs ys : List ℕ) → length xs ≡ n → length ys ≡ n → ((i : ℕ) → get_or xs i 0 < 256) → ((i : ℕ) → get_or ys i 0 < 256) → nat_eq (little_number n xs) (little_number n ys) ≡ pointwise nat_eq xs ys
same_numbers n xs ys long long_too fits fits_too =
    let told = unsigned_Decides (little_number n xs) (little_number n ys) in
    let numbers : Decides (nat_eq (little_number n xs) (little_number n ys)) (xs ≡ ys) =
    (λ e. same_bytes n xs ys long long_too fits fits_too (told.0 e), λ e. told.1 (ap (little_number n) e)) in
    same_from_decides _ _ numbers (bytes_decides xs ys)
