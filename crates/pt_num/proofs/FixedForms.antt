-- Numbers of a fixed width, read and put.
use Rattle.std.proofs.Common.{◌≡◌, ℕ, zero, suc, ◌^◌, ◌<◌, ◌≤◌, List, [], ◌∷◌, ◌++◌, length, take, Ok, refl, ◌∙◌, sym, arith, get_or}
use Rattle.std.specs.Int.{Width, w16, w32, w64, byte_len, from_le_bytes}
use Rattle.std.proofs.lemmas.Nat.{le_bytes_2, le_bytes_4, le_bytes_8}
use Rattle.std.proofs.lemmas.List.{length-take-le, length-append, drop_at}
use Rattle.std.proofs.lemmas.Bool.{le-ltb, cond-false}
use Rattle.byteorder.specs.Endian.{little_number}
use Rattle.byteorder.specs.Numbers.{little_from-take, little_number-reads_back, length-bytes_low_first}
use Rattle.pt_num.specs.Numbers.{fixed}
use Rattle.pt_num.specs.Fields.{fixed_at}

-- A byte at a place of the front is one of the bytes.
pub front_fits : (n : ℕ) (bytes : List ℕ) → n ≤ length bytes → ((i : ℕ) → get_or bytes i 0 < 256) → (i : ℕ) → get_or (take n bytes) i 0 < 256
front_fits zero bytes within fits i = omega arith
front_fits (suc n) [] within fits i = absurd (omega arith)
front_fits (suc n) (b ∷ bytes) within fits zero = fits 0
front_fits (suc n) (b ∷ bytes) within fits (suc i) = front_fits n bytes (omega arith) (λ j. fits (suc j)) i

-- The two bytes of a number.
pub fixed_16 : (bytes : List ℕ) → 2 ≤ length bytes → ((i : ℕ) → get_or bytes i 0 < 256) → fixed w16 (little_number 2 bytes) ≡ take 2 bytes
unfolding fixed
fixed_16 bytes within fits =
    let e : little_number 2 bytes ≡ from_le_bytes w16 (take 2 bytes) = sym (little_from-take 0 2 2 bytes (omega arith)) ∙ omega arith in
    le_bytes_2 (take 2 bytes) (little_number 2 bytes) (length-take-le 2 bytes within) (front_fits 2 bytes within fits) e

-- The four bytes of a number.
pub fixed_32 : (bytes : List ℕ) → 4 ≤ length bytes → ((i : ℕ) → get_or bytes i 0 < 256) → fixed w32 (little_number 4 bytes) ≡ take 4 bytes
unfolding fixed
fixed_32 bytes within fits =
    let e : little_number 4 bytes ≡ from_le_bytes w32 (take 4 bytes) = sym (little_from-take 0 4 4 bytes (omega arith)) ∙ omega arith in
    le_bytes_4 (take 4 bytes) (little_number 4 bytes) (length-take-le 4 bytes within) (front_fits 4 bytes within fits) e

-- The eight bytes of a number.
pub fixed_64 : (bytes : List ℕ) → 8 ≤ length bytes → ((i : ℕ) → get_or bytes i 0 < 256) → fixed w64 (little_number 8 bytes) ≡ take 8 bytes
unfolding fixed
fixed_64 bytes within fits =
    let e : little_number 8 bytes ≡ from_le_bytes w64 (take 8 bytes) = sym (little_from-take 0 8 8 bytes (omega arith)) ∙ omega arith in
    le_bytes_8 (take 8 bytes) (little_number 8 bytes) (length-take-le 8 bytes within) (front_fits 8 bytes within fits) e

-- A number of fixed width is read, whatever follows.
pub read_fixed : (w : Width) (n : ℕ) (rest : List ℕ) → n < 256 ^ byte_len w → fixed_at w (fixed w n ++ rest) ≡ Ok (n, rest)
unfolding fixed
read_fixed w n rest fits =
    let long = length-bytes_low_first 0 (byte_len w) n in
    let enough : byte_len w ≤ length (fixed w n ++ rest) = omega (arith, length-append (fixed w n) rest, long) in
    let value = little_number-reads_back (byte_len w) n rest fits in
    let after = drop_at (fixed w n) rest (byte_len w) long in
    cond-false _ _ _ (le-ltb (length (fixed w n ++ rest)) (byte_len w) enough) ∙ rw (value, after) refl
