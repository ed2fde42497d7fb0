-- What is read of numbers and texts is how they are spelled.
use Rattle.std.proofs.Common.{◌≡◌, ℕ, zero, suc, ◌^◌, ◌<◌, ◌≤◌, Bool, true, false, cond, Ok, Err, List, [], ◌∷◌, ◌++◌, length, take, drop, get_or, refl, sym, ap, subst, ◌∙◌, arith}
use Rattle.std.specs.Prelude.{nat_lt}
use Rattle.std.specs.Int.{w32, w64, byte_len}
use Rattle.std.proofs.lemmas.Bool.{ltb-false}
use Rattle.std.proofs.lemmas.List.{take-append-drop}
use Rattle.byteorder.specs.Endian.{little_number}
use Rattle.byteorder.specs.Numbers.{little_from-lt}
use Rattle.pt_num.specs.Steps.{or_else_fault}
use Rattle.pt_num.specs.Numbers.{fixed}
use Rattle.pt_num.specs.Texts.{text_z, are_units}
use Rattle.pt_num.specs.Fields.{Field, Short, text_z_at}
use Rattle.pt_num.proofs.FixedForms.{fixed_32, fixed_64, read_fixed}
use Rattle.pt_num.proofs.TextForms.{begins_z, read_z}
use Rattle.nt_meta.specs.Reading.{Cut, number_at, text_at}
use Rattle.nt_meta.proofs.FieldSteps.{same_part, value_kept}

-- Each byte is below 256.
abbrev pub AreLow : List ℕ → Type 0
AreLow bytes = (i : ℕ) → get_or bytes i 0 < 256

-- So are those after the first ones.
pub low-drop : (n : ℕ) (bytes : List ℕ) → AreLow bytes → AreLow (drop n bytes)
low-drop zero bytes low = low
low-drop (suc n) [] low = λ i. omega arith
low-drop (suc n) (b ∷ bytes) low = low-drop n bytes (λ i. low (suc i))

pub low-after : (front rest : List ℕ) → AreLow (front ++ rest) → AreLow rest
low-after [] rest low = low
low-after (b ∷ front) rest low = low-after front rest (λ i. low (suc i))

-- ---- numbers

-- What is after this many bytes.
number-is : (short : Bool) (value n k : ℕ) (bytes rest : List ℕ) → short ≡ nat_lt (length bytes) k → or_else_fault (cond short (Err Short) (let out : ℕ × List ℕ = (value, drop k bytes) in Ok out)) Cut ≡ Ok (n, rest) → (value ≡ n) × (drop k bytes ≡ rest) × (k ≤ length bytes)
number-is true value n k bytes rest is e = absurd (cc)
number-is false value n k bytes rest is e =
    let same = same_part value n (drop k bytes) rest e in (same.0, same.1, ltb-false (length bytes) k (sym is))

-- A number of 32 bits.
pub number-spelled-32 : (bytes rest : List ℕ) (n : ℕ) → AreLow bytes → number_at w32 bytes ≡ Ok (n, rest) → (bytes ≡ fixed w32 n ++ rest) × (n < 2 ^ 32)
unfolding number_at
number-spelled-32 bytes rest n low e =
    let is = number-is (nat_lt (length bytes) (byte_len w32)) (little_number 4 bytes) n 4 bytes rest refl e in
    let form : fixed w32 n ≡ take 4 bytes = ap (fixed w32) (sym is.0) ∙ fixed_32 bytes is.2 low in (
      sym (take-append-drop 4 bytes) ∙ ap (λ (front : List ℕ). front ++ drop 4 bytes) (sym form) ∙ ap (λ (back : List ℕ). fixed w32 n ++ back) is.1,
      subst (λ (m : ℕ). m < 2 ^ 32) is.0 (little_from-lt 0 4 bytes low),
    )

-- A number of 64 bits.
pub number-spelled-64 : (bytes rest : List ℕ) (n : ℕ) → AreLow bytes → number_at w64 bytes ≡ Ok (n, rest) → (bytes ≡ fixed w64 n ++ rest) × (n < 2 ^ 64)
unfolding number_at
number-spelled-64 bytes rest n low e =
    let is = number-is (nat_lt (length bytes) (byte_len w64)) (little_number 8 bytes) n 8 bytes rest refl e in
    let form : fixed w64 n ≡ take 8 bytes = ap (fixed w64) (sym is.0) ∙ fixed_64 bytes is.2 low in (
      sym (take-append-drop 8 bytes) ∙ ap (λ (front : List ℕ). front ++ drop 8 bytes) (sym form) ∙ ap (λ (back : List ℕ). fixed w64 n ++ back) is.1,
      subst (λ (m : ℕ). m < 2 ^ 64) is.0 (little_from-lt 0 8 bytes low),
    )

-- A number is read, whatever follows.
pub number-read-32 : (n : ℕ) (rest : List ℕ) → n < 2 ^ 32 → number_at w32 (fixed w32 n ++ rest) ≡ Ok (n, rest)
unfolding number_at
number-read-32 n rest fits = ap (λ (field : Field ℕ). or_else_fault field Cut) (read_fixed w32 n rest fits)

pub number-read-64 : (n : ℕ) (rest : List ℕ) → n < 2 ^ 64 → number_at w64 (fixed w64 n ++ rest) ≡ Ok (n, rest)
unfolding number_at
number-read-64 n rest fits = ap (λ (field : Field ℕ). or_else_fault field Cut) (read_fixed w64 n rest fits)

-- ---- texts

-- A text.
pub text-spelled : (bytes rest units : List ℕ) → AreLow bytes → text_at bytes ≡ Ok (units, rest) → (bytes ≡ text_z units ++ rest) × (are_units units ≡ true)
unfolding text_at
text-spelled bytes rest units low e =
    let begun = begins_z bytes units rest low (value_kept (text_z_at bytes) (units, rest) e) in
    (begun.2 ∙ ap (λ (front : List ℕ). front ++ rest) begun.1.spelled, begun.1.no_zero)

-- A text is read, whatever follows.
pub text-read : (units rest : List ℕ) → are_units units ≡ true → text_at (text_z units ++ rest) ≡ Ok (units, rest)
unfolding text_at
text-read units rest h = ap (λ (field : Field (List ℕ)). or_else_fault field Cut) (read_z units rest h)
