-- The text of a number spells it.
use Rattle.std.proofs.Common.{◌≡◌, ℕ, zero, suc, ◌+◌, ◌/◌, ◌%◌, ◌^◌, ◌<◌, ◌≤◌, true, false, not, ◌==◌, nat_le, List, [], ◌∷◌, length, Some, refl, ap, ◌∙◌, arith, inl, inr}
use Rattle.std.specs.List.{list_all}
use Rattle.std.specs.Int.{is_in_range}
use Rattle.std.specs.Char.{digit_value, is_digit}
use Rattle.std.specs.Str.Parse.{digits_value, AllDigits}
use Rattle.std.specs.Fmt.{digits, digits_onto, digit_glyph, decimal}
use Rattle.std.proofs.lemmas.Bool.{cases_Bool, cond-true, cond-false, and_from, le-leb, lt-ltb, eq-eqb, ne_eqb, not_from_false}
use Rattle.std.proofs.lemmas.Fmt.{digits_is_IsNumeral, decimal_is_IsNumeral, length-decimal-le}
use Rattle.ep_plan.specs.declared.limits.TheConstants.{DECIMAL_DIGITS, HEX_DIGITS}
use Rattle.ep_plan.specs.Words.{at_most, numeral_in, number_in, hex_in, number_text, hex_text}
use Rattle.ep_plan.proofs.Separated.{lacks}
use Rattle.ep_plan.proofs.Numerals.{numeral_in-true, at_most-below}

-- ---- lengths

-- The digits of a number below 16 to this power.
length-digits_onto : (k m n : ℕ) (acc : List ℕ) → n < 16 ^ suc m → length (digits_onto k 16 false n acc) ≤ suc m + length acc
length-digits_onto zero m n acc small = omega arith
length-digits_onto (suc k) zero n acc small =
    let one = ap length (cond-true (n / 16 == 0) (digit_glyph false (n % 16) ∷ acc) (digits_onto k 16 false (n / 16) (digit_glyph false (n % 16) ∷ acc)) (eq-eqb (n / 16) 0 (omega arith))) in
    omega (arith, one)
length-digits_onto (suc k) (suc m) n acc small =
    let rest = length-digits_onto k m (n / 16) (digit_glyph false (n % 16) ∷ acc) (omega arith) in
    elim (cases_Bool (n / 16 == 0)) [
      | inl last ↦
          let one = ap length (cond-true (n / 16 == 0) (digit_glyph false (n % 16) ∷ acc) (digits_onto k 16 false (n / 16) (digit_glyph false (n % 16) ∷ acc)) last) in
          omega (arith, one)
      | inr more ↦
          let further = ap length (cond-false (n / 16 == 0) (digit_glyph false (n % 16) ∷ acc) (digits_onto k 16 false (n / 16) (digit_glyph false (n % 16) ∷ acc)) more) in
          omega (arith, further, rest)
    ]

-- A number of 64 bits has at most 16 hexadecimal digits.
length-hex_text : (n : ℕ) → n < 2 ^ 64 → length (hex_text n) ≤ HEX_DIGITS
unfolding hex_text digits
length-hex_text n small =
    let short = length-digits_onto 64 15 n [] in
    short small

-- ---- digits

-- Digits pass the test of a numeral.
test-from_digits : (base : ℕ) (word : List ℕ) → AllDigits base word → list_all (λ digit. is_digit digit base) word ≡ true
test-from_digits base [] digits = refl
test-from_digits base (digit ∷ word) digits =
    and_from (is_digit digit base) (list_all (λ d. is_digit d base) word) (lt-ltb (digit_value digit) base digits.0) (test-from_digits base word digits.1)

-- Digits of the right count are a numeral.
numeral_in-digits : (base places : ℕ) (word : List ℕ) → 0 < length word → length word ≤ places → AllDigits base word → numeral_in base places word ≡ Some (digits_value base word)
numeral_in-digits base places word some few digits =
    numeral_in-true base places word
    (and_from (is_in_range 1 places (length word)) (list_all (λ digit. is_digit digit base) word)
    (and_from (nat_le 1 (length word)) (nat_le (length word) places) (le-leb 1 (length word) (omega arith)) (le-leb (length word) places few))
    (test-from_digits base word digits))

-- A number that is printed is read back.
pub number_in-number_text : (most number : ℕ) → number ≤ most → number < 2 ^ 64 → number_in most (number_text number) ≡ Some number
unfolding number_in number_text
number_in-number_text most number below small =
    let text = decimal_is_IsNumeral number small in
    let short = length-decimal-le DECIMAL_DIGITS number (omega arith) (omega arith) small in
    let read = numeral_in-digits 10 DECIMAL_DIGITS (decimal number) text.0.0 short text.0.1 in
    ap (at_most most) (read ∙ ap Some text.1) ∙ at_most-below most number below

-- So are hexadecimal digits.
pub hex_in-hex_text : (number : ℕ) → number < 2 ^ 64 → hex_in (hex_text number) ≡ Some number
unfolding hex_in hex_text
hex_in-hex_text number small =
    let text = digits_is_IsNumeral 16 false (omega arith) (omega arith) number (omega arith) in
    numeral_in-digits 16 HEX_DIGITS (digits 16 false number) text.0.0 (length-hex_text number small) text.0.1 ∙ ap Some text.1

-- ---- bytes that no number has

-- A byte that is no digit in any base stands in no number.
lacks-digits : (base separator : ℕ) (word : List ℕ) → base ≤ 36 → 36 ≤ digit_value separator → AllDigits base word → lacks separator word ≡ true
lacks-digits base separator [] low high digits = refl
lacks-digits base separator (digit ∷ word) low high digits =
    and_from (not (digit == separator)) (lacks separator word)
    (not_from_false (digit == separator) (ne_eqb digit separator (λ same. absurd (omega (arith, ap digit_value same, digits.0)))))
    (lacks-digits base separator word low high digits.1)

pub number_text-lacks : (separator number : ℕ) → 36 ≤ digit_value separator → number < 2 ^ 64 → lacks separator (number_text number) ≡ true
unfolding number_text
number_text-lacks separator number high small = lacks-digits 10 separator (decimal number) (omega arith) high (decimal_is_IsNumeral number small).0.1

pub hex_text-lacks : (separator number : ℕ) → 36 ≤ digit_value separator → number < 2 ^ 64 → lacks separator (hex_text number) ≡ true
unfolding hex_text
hex_text-lacks separator number high small = lacks-digits 16 separator (digits 16 false number) (omega arith) high (digits_is_IsNumeral 16 false (omega arith) (omega arith) number (omega arith)).0.1

pub number_text-some : (number : ℕ) → number < 2 ^ 64 → 0 < length (number_text number)
unfolding number_text
number_text-some number small = (decimal_is_IsNumeral number small).0.0

pub hex_text-some : (number : ℕ) → number < 2 ^ 64 → 0 < length (hex_text number)
unfolding hex_text
hex_text-some number small = (digits_is_IsNumeral 16 false (omega arith) (omega arith) number (omega arith)).0.0
