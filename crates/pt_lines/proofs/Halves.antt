-- The text of a UUID by its halves.
use Rattle.std.proofs.Common.{◌≡◌, ℕ, ◌+◌, ◌-◌, ◌/◌, ◌%◌, ◌<◌, List, [], ◌∷◌, ◌++◌, length, ap, ◌∙◌, arith}
use Rattle.std.specs.Prelude.{if◌then◌else◌, nat_lt}
use Rattle.ep_defs.specs.Ranges.{AreBytes}
use Rattle.pt_print.specs.Printed.{hex_digit}
use Rattle.uuid.specs.Parts.{swap_fields}
use Rattle.uuid.specs.Text.{by_index, hyphenated_text, lower}
use Rattle.uuid.specs.Text as uuid
use Rattle.pt_lines.specs.state.Halves.{back_digits, front_digits}

digit-is : (digit : ℕ) → hex_digit digit ≡ uuid.hex_digit lower digit
digit-is digit = let same : 87 + digit ≡ 97 + digit - 10 = omega arith in ap (λ (n : ℕ). if nat_lt digit 10 then 48 + digit else n) same

-- The digits of a byte's halves.
h : (byte : ℕ) → byte < 256 → hex_digit (byte / 16) ≡ uuid.hex_digit lower (byte / 16 % 16)
h byte lt = let same : byte / 16 ≡ byte / 16 % 16 = omega (arith, lt) in ap hex_digit same ∙ digit-is (byte / 16 % 16)

l : (byte : ℕ) → hex_digit (byte % 16) ≡ uuid.hex_digit lower (byte % 16)
l byte = digit-is (byte % 16)

pub halves : (bytes : List ℕ) → length bytes ≡ 16 → AreBytes bytes → front_digits bytes ++ back_digits bytes ≡ hyphenated_text lower (swap_fields bytes)
unfolding by_index
halves (b0 ∷ b1 ∷ b2 ∷ b3 ∷ b4 ∷ b5 ∷ b6 ∷ b7 ∷ b8 ∷ b9 ∷ b10 ∷ b11 ∷ b12 ∷ b13 ∷ b14 ∷ b15 ∷ []) is fit =
    λ i.
    h b3 (fit 3 0 (omega arith)) i ∷ l b3 i ∷ h b2 (fit 2 0 (omega arith)) i ∷ l b2 i ∷ h b1 (fit 1 0 (omega arith)) i ∷ l b1 i ∷ h b0 (fit 0 0 (omega arith)) i ∷ l b0 i ∷ 45 ∷ h b5 (fit 5 0 (omega arith)) i ∷ l b5 i ∷ h b4 (fit 4 0 (omega arith)) i ∷ l b4 i ∷ 45 ∷ h b7 (fit 7 0 (omega arith)) i ∷ l b7 i ∷ h b6 (fit 6 0 (omega arith)) i ∷ l b6 i ∷ 45 ∷ h b8 (fit 8 0 (omega arith)) i ∷ l b8 i ∷ h b9 (fit 9 0 (omega arith)) i ∷ l b9 i ∷ 45 ∷ h b10 (fit 10 0 (omega arith)) i ∷ l b10 i ∷ h b11 (fit 11 0 (omega arith)) i ∷ l b11 i ∷ h b12 (fit 12 0 (omega arith)) i ∷ l b12 i ∷ h b13 (fit 13 0 (omega arith)) i ∷ l b13 i ∷ h b14 (fit 14 0 (omega arith)) i ∷ l b14 i ∷ h b15 (fit 15 0 (omega arith)) i ∷ l b15 i ∷ []
halves [] is fit = absurd (omega (arith, is))
halves (b0 ∷ []) is fit = absurd (omega (arith, is))
halves (b0 ∷ b1 ∷ []) is fit = absurd (omega (arith, is))
halves (b0 ∷ b1 ∷ b2 ∷ []) is fit = absurd (omega (arith, is))
halves (b0 ∷ b1 ∷ b2 ∷ b3 ∷ []) is fit = absurd (omega (arith, is))
halves (b0 ∷ b1 ∷ b2 ∷ b3 ∷ b4 ∷ []) is fit = absurd (omega (arith, is))
halves (b0 ∷ b1 ∷ b2 ∷ b3 ∷ b4 ∷ b5 ∷ []) is fit = absurd (omega (arith, is))
halves (b0 ∷ b1 ∷ b2 ∷ b3 ∷ b4 ∷ b5 ∷ b6 ∷ []) is fit = absurd (omega (arith, is))
halves (b0 ∷ b1 ∷ b2 ∷ b3 ∷ b4 ∷ b5 ∷ b6 ∷ b7 ∷ []) is fit = absurd (omega (arith, is))
halves (b0 ∷ b1 ∷ b2 ∷ b3 ∷ b4 ∷ b5 ∷ b6 ∷ b7 ∷ b8 ∷ []) is fit = absurd (omega (arith, is))
halves (b0 ∷ b1 ∷ b2 ∷ b3 ∷ b4 ∷ b5 ∷ b6 ∷ b7 ∷ b8 ∷ b9 ∷ []) is fit = absurd (omega (arith, is))
halves (b0 ∷ b1 ∷ b2 ∷ b3 ∷ b4 ∷ b5 ∷ b6 ∷ b7 ∷ b8 ∷ b9 ∷ b10 ∷ []) is fit = absurd (omega (arith, is))
halves (b0 ∷ b1 ∷ b2 ∷ b3 ∷ b4 ∷ b5 ∷ b6 ∷ b7 ∷ b8 ∷ b9 ∷ b10 ∷ b11 ∷ []) is fit = absurd (omega (arith, is))
halves (b0 ∷ b1 ∷ b2 ∷ b3 ∷ b4 ∷ b5 ∷ b6 ∷ b7 ∷ b8 ∷ b9 ∷ b10 ∷ b11 ∷ b12 ∷ []) is fit = absurd (omega (arith, is))
halves (b0 ∷ b1 ∷ b2 ∷ b3 ∷ b4 ∷ b5 ∷ b6 ∷ b7 ∷ b8 ∷ b9 ∷ b10 ∷ b11 ∷ b12 ∷ b13 ∷ []) is fit = absurd (omega (arith, is))
halves (b0 ∷ b1 ∷ b2 ∷ b3 ∷ b4 ∷ b5 ∷ b6 ∷ b7 ∷ b8 ∷ b9 ∷ b10 ∷ b11 ∷ b12 ∷ b13 ∷ b14 ∷ []) is fit = absurd (omega (arith, is))
halves (b0 ∷ b1 ∷ b2 ∷ b3 ∷ b4 ∷ b5 ∷ b6 ∷ b7 ∷ b8 ∷ b9 ∷ b10 ∷ b11 ∷ b12 ∷ b13 ∷ b14 ∷ b15 ∷ b16 ∷ more) is fit = absurd (omega (arith, is))
