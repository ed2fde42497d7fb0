-- Stacks, frame by frame.
use Rattle.std.proofs.Common.{◌≡◌, ℕ, zero, suc, ◌+◌, ◌<◌, ◌≤◌, List, [], ◌∷◌, length, take, drop, sym, ap, ◌∙◌, arith, get_or}
use Rattle.std.specs.Int.{w64, to_le_bytes, from_le_bytes}
use Rattle.std.proofs.lemmas.Nat.{le_bytes_8}
use Rattle.std.proofs.lemmas.List.{length-take-le, length-drop, take-append-drop}
use Rattle.std.proofs.Math.Seq.{take-add}
use Rattle.byteorder.specs.Endian.{little_number}
use Rattle.byteorder.specs.Numbers.{little_from-take}

-- A byte at a place of the front is one of the bytes.
front_fits : (n : ℕ) (bytes : List ℕ) → n ≤ length bytes → ((i : ℕ) → get_or bytes i 0 < 256) → (i : ℕ) → get_or (take n bytes) i 0 < 256
front_fits zero bytes within fits i = omega arith
front_fits (suc n) [] within fits i = absurd (omega arith)
front_fits (suc n) (b ∷ bytes) within fits zero = fits 0
front_fits (suc n) (b ∷ bytes) within fits (suc i) = front_fits n bytes (omega arith) (λ j. fits (suc j)) i

-- The bytes of the number of a frame are the frame.
frame_is : (bytes : List ℕ) → 8 ≤ length bytes → ((i : ℕ) → get_or bytes i 0 < 256) → to_le_bytes w64 (little_number 8 bytes) ≡ take 8 bytes
frame_is bytes within fits =
    let e : little_number 8 bytes ≡ from_le_bytes w64 (take 8 bytes) = sym (little_from-take 0 8 8 bytes (omega arith)) ∙ omega arith in
    le_bytes_8 (take 8 bytes) (little_number 8 bytes) (length-take-le 8 bytes within) (front_fits 8 bytes within fits) e

-- Frames of the same number are the same.
pub same_frame : (xs ys : List ℕ) → 8 ≤ length xs → 8 ≤ length ys → ((i : ℕ) → get_or xs i 0 < 256) → ((i : ℕ) → get_or ys i 0 < 256) → little_number 8 xs ≡ little_number 8 ys → take 8 xs ≡ take 8 ys
same_frame xs ys long long_too fits fits_too e =
    sym (frame_is xs long fits) ∙ ap (to_le_bytes w64) e ∙ frame_is ys long_too fits_too

-- A byte at a place of what is left is one of the bytes.
rest_fits : (n : ℕ) (bytes : List ℕ) → ((i : ℕ) → get_or bytes i 0 < 256) → (i : ℕ) → get_or (drop n bytes) i 0 < 256
rest_fits zero bytes fits i = fits i
rest_fits (suc n) [] fits i = fits i
rest_fits (suc n) (b ∷ bytes) fits i = rest_fits n bytes (λ j. fits (suc j)) i

-- One frame more is the same.
pub frame_more : (at : ℕ) (xs ys : List ℕ) → at + 8 ≤ length xs → length xs ≡ length ys → ((i : ℕ) → get_or xs i 0 < 256) → ((i : ℕ) → get_or ys i 0 < 256) → take at xs ≡ take at ys → little_number 8 (drop at xs) ≡ little_number 8 (drop at ys) → take (at + 8) xs ≡ take (at + 8) ys
frame_more at xs ys within long fits fits_too before e =
    let left : 8 ≤ length (drop at xs) = omega (arith, length-drop at xs) in
    let left_too : 8 ≤ length (drop at ys) = omega (arith, length-drop at ys) in
    let frame : take 8 (drop at xs) ≡ take 8 (drop at ys) = same_frame (drop at xs) (drop at ys) left left_too (rest_fits at xs fits) (rest_fits at ys fits_too) e in
    take-add at 8 xs ∙ rw (before, frame) (sym (take-add at 8 ys))

-- Where the front and the rest are the same, the whole is.
pub both_same : (at : ℕ) (xs ys : List ℕ) → take at xs ≡ take at ys → drop at xs ≡ drop at ys → xs ≡ ys
both_same at xs ys front rest =
    sym (take-append-drop at xs) ∙ rw (front, rest) (take-append-drop at ys)
