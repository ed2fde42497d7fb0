-- The text of an address of eight bytes.
use Rattle.std.proofs.Common.{◌≡◌, ℕ, ◌/◌, ◌%◌, List, [], ◌∷◌, length, refl, arith}
use Rattle.std.specs.Prelude.{slice_index}
use Rattle.pt_print.specs.Printed.{hex_digit}
use Rattle.pt_lines.specs.Json.{address_text}

-- Its digits, those of the last byte first.
abbrev pub digits_of_eight : List ℕ → List ℕ
digits_of_eight frame =
    34 ∷ hex_digit (slice_index frame 7 / 16) ∷ hex_digit (slice_index frame 7 % 16) ∷ hex_digit (slice_index frame 6 / 16) ∷ hex_digit (slice_index frame 6 % 16) ∷ hex_digit (slice_index frame 5 / 16) ∷ hex_digit (slice_index frame 5 % 16) ∷ hex_digit (slice_index frame 4 / 16) ∷ hex_digit (slice_index frame 4 % 16) ∷ hex_digit (slice_index frame 3 / 16) ∷ hex_digit (slice_index frame 3 % 16) ∷ hex_digit (slice_index frame 2 / 16) ∷ hex_digit (slice_index frame 2 % 16) ∷ hex_digit (slice_index frame 1 / 16) ∷ hex_digit (slice_index frame 1 % 16) ∷ hex_digit (slice_index frame 0 / 16) ∷ hex_digit (slice_index frame 0 % 16) ∷ 34 ∷ []

pub eight : (frame : List ℕ) → length frame ≡ 8 → digits_of_eight frame ≡ address_text frame
eight [] is = absurd (omega (arith, is))
eight (a ∷ []) is = absurd (omega (arith, is))
eight (a ∷ b ∷ []) is = absurd (omega (arith, is))
eight (a ∷ b ∷ c ∷ []) is = absurd (omega (arith, is))
eight (a ∷ b ∷ c ∷ d ∷ []) is = absurd (omega (arith, is))
eight (a ∷ b ∷ c ∷ d ∷ e ∷ []) is = absurd (omega (arith, is))
eight (a ∷ b ∷ c ∷ d ∷ e ∷ f ∷ []) is = absurd (omega (arith, is))
eight (a ∷ b ∷ c ∷ d ∷ e ∷ f ∷ g ∷ []) is = absurd (omega (arith, is))
eight (a ∷ b ∷ c ∷ d ∷ e ∷ f ∷ g ∷ h ∷ []) is = refl
eight (a ∷ b ∷ c ∷ d ∷ e ∷ f ∷ g ∷ h ∷ i ∷ more) is = absurd (omega (arith, is))
