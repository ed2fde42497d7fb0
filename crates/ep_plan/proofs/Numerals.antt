-- When a word is a numeral, and when it is not.
use Rattle.std.proofs.Common.{◌≡◌, ℕ, ◌+◌, ◌-◌, ◌*◌, ◌^◌, ◌<◌, ◌≤◌, Bool, true, false, ◌&&◌, nat_le, if◌then◌else◌, List, [], ◌∷◌, length, get_or, take, Option, Some, None, refl, sym, ap, unwrap_or, ◌∙◌, arith, ◌⊎◌, inl, inr}
use Rattle.std.specs.List.{list_all}
use Rattle.std.specs.Int.{is_in_range}
use Rattle.std.specs.Char.{digit_value, is_digit}
use Rattle.std.specs.Str.Parse.{digits_value, AllDigits}
use Rattle.std.proofs.lemmas.Bool.{and_from, and_left, and_right, le-leb, lt-leb, le-ltb, leb-true, cond-true, cond-false, cases_Bool, and_parts, ltb-true, leb-false}
use Rattle.std.proofs.Math.Nat.{pow-le-pow_right}
use Rattle.std.specs.Option.{MatchOption}
use Rattle.std.specs.Bool.{then_some}
use Rattle.std.proofs.lemmas.List.Folds.{list_all_at}
use Rattle.std.proofs.lemmas.Int.Digits.{digits_value_more, digits_value-lt}
use Rattle.std.proofs.lemmas.Str.Parse.{digits_value-take-le}
use Rattle.ep_plan.specs.declared.limits.TheConstants.{DECIMAL_DIGITS, HEX_DIGITS}
use Rattle.ep_plan.specs.Words.{option_filter, at_most, numeral_in, number_in, hex_in}

-- What the word's length and digits must be.
abbrev pub is_numeral : ℕ → ℕ → List ℕ → Bool
is_numeral base places word = is_in_range 1 places (length word) && list_all (λ digit. is_digit digit base) word

pub numeral_in-true : (base places : ℕ) (word : List ℕ) → is_numeral base places word ≡ true → numeral_in base places word ≡ Some (digits_value base word)
unfolding numeral_in
numeral_in-true base places word h = cond-true (is_numeral base places word) (Some (digits_value base word)) None h

pub numeral_in-false : (base places : ℕ) (word : List ℕ) → is_numeral base places word ≡ false → numeral_in base places word ≡ None
unfolding numeral_in
numeral_in-false base places word h = cond-false (is_numeral base places word) (Some (digits_value base word)) None h

-- No digits, or too many.
pub numeral_in-length : (base places : ℕ) (word : List ℕ) → is_in_range 1 places (length word) ≡ false → numeral_in base places word ≡ None
numeral_in-length base places word h = numeral_in-false base places word (and_left (is_in_range 1 places (length word)) (list_all (λ digit. is_digit digit base) word) h)

-- A byte that is no digit.
pub numeral_in-digit : (base places : ℕ) (word : List ℕ) (k : ℕ) → k < length word → base ≤ digit_value (get_or word k 0) → numeral_in base places word ≡ None
numeral_in-digit base places word k within bad =
    let test : Bool = list_all (λ digit. is_digit digit base) word in
    let no_digit : test ≡ false = list_all_at (λ digit. is_digit digit base) word k 0 within (le-ltb (digit_value (get_or word k 0)) base bad) in
    numeral_in-false base places word (and_right (is_in_range 1 places (length word)) test no_digit)

pub at_most-above : (most number : ℕ) → most < number → at_most most (Some number) ≡ None
at_most-above most number h = cond-false (nat_le number most) (Some number) None (lt-leb number most h)

pub at_most-below : (most number : ℕ) → number ≤ most → at_most most (Some number) ≡ Some number
at_most-below most number h = cond-true (nat_le number most) (Some number) None (le-leb number most h)

-- A number that is too large.
pub at_most-numeral_in-above : (most base places : ℕ) (word : List ℕ) → most < digits_value base word → at_most most (numeral_in base places word) ≡ None
at_most-numeral_in-above most base places word h =
    elim (cases_Bool (is_numeral base places word)) [
      | inl good ↦ ap (at_most most) (numeral_in-true base places word good) ∙ at_most-above most (digits_value base word) h
      | inr bad ↦ ap (at_most most) (numeral_in-false base places word bad)
    ]

-- The first digits and the next one spell no more than all of them.
pub next-le : (base : ℕ) (word : List ℕ) (k : ℕ) → 1 ≤ base → k < length word → digits_value base (take k word) * base + digit_value (get_or word k 0) ≤ digits_value base word
next-le base word k low within =
    let more = digits_value_more base word k within in
    let bound = digits_value-take-le base word (k + 1) low in
    omega (arith, more, bound)

-- The smaller bound alone counts.
pub at_most-at_most : (most more : ℕ) (o : Option ℕ) → most ≤ more → at_most most (at_most more o) ≡ at_most most o
at_most-at_most most more None h = refl
at_most-at_most most more (Some number) h =
    elim (cases_Bool (nat_le number more)) [
      | inl good ↦ ap (at_most most) (cond-true (nat_le number more) (Some number) None good)
      | inr bad ↦
          let above : more < number = leb-false number more bad in
          ap (at_most most) (at_most-above more number above) ∙ sym (at_most-above most number (omega arith))
    ]

pub digits-from_test : (base : ℕ) (word : List ℕ) → list_all (λ digit. is_digit digit base) word ≡ true → AllDigits base word
digits-from_test base [] h = tt
digits-from_test base (digit ∷ word) h =
    let parts = and_parts (is_digit digit base) (list_all (λ d. is_digit d base) word) h in
    (ltb-true (digit_value digit) base parts.0, digits-from_test base word parts.1)

pub numeral_in-length_of : (base places : ℕ) (word : List ℕ) → (length word ≡ 0) ⊎ (places < length word) → numeral_in base places word ≡ None
numeral_in-length_of base places word (inl none) =
    numeral_in-length base places word (and_left (nat_le 1 (length word)) (nat_le (length word) places) (lt-leb 1 (length word) (omega arith)))
numeral_in-length_of base places word (inr many) =
    numeral_in-length base places word (and_right (nat_le 1 (length word)) (nat_le (length word) places) (lt-leb (length word) places many))

-- A numeral that is not too large.
pub at_most-numeral_in-some : (most base places : ℕ) (word : List ℕ) → 0 < length word → length word ≤ places → list_all (λ digit. is_digit digit base) word ≡ true
    → digits_value base word ≤ most → at_most most (numeral_in base places word) ≡ Some (digits_value base word)
at_most-numeral_in-some most base places word some few are_digits small =
    let numeral = numeral_in-true base places word (and_from (is_in_range 1 places (length word)) (list_all (λ digit. is_digit digit base) word)
    (and_from (nat_le 1 (length word)) (nat_le (length word) places) (le-leb 1 (length word) (omega arith)) (le-leb (length word) places few)) are_digits) in
    ap (at_most most) numeral ∙ at_most-below most (digits_value base word) small

-- 16 hexadecimal digits spell a number of 64 bits.
pub at_most-hex : (word : List ℕ) → at_most (2 ^ 64 - 1) (numeral_in 16 HEX_DIGITS word) ≡ hex_in word
unfolding hex_in
at_most-hex word =
    elim (cases_Bool (is_numeral 16 HEX_DIGITS word)) [
      | inl good ↦
          let digits : list_all (λ digit. is_digit digit 16) word ≡ true = (and_parts (is_in_range 1 HEX_DIGITS (length word)) (list_all (λ digit. is_digit digit 16) word) good).1 in
          let lengths : is_in_range 1 HEX_DIGITS (length word) ≡ true = (and_parts (is_in_range 1 HEX_DIGITS (length word)) (list_all (λ digit. is_digit digit 16) word) good).0 in
          let few : length word ≤ HEX_DIGITS = leb-true (length word) HEX_DIGITS (and_parts (nat_le 1 (length word)) (nat_le (length word) HEX_DIGITS) lengths).1 in
          let below = digits_value-lt 16 word (digits-from_test 16 word digits) in
          let power : 16 ^ length word ≤ 16 ^ HEX_DIGITS = pow-le-pow_right (omega arith) few in
          let small : digits_value 16 word ≤ 2 ^ 64 - 1 = omega (arith, below, power) in
          let read = numeral_in-true 16 HEX_DIGITS word good in
          ap (at_most (2 ^ 64 - 1)) read ∙ at_most-below (2 ^ 64 - 1) (digits_value 16 word) small ∙ sym read
      | inr bad ↦
          let none = numeral_in-false 16 HEX_DIGITS word bad in
          ap (at_most (2 ^ 64 - 1)) none ∙ sym none
    ]

-- A number that a test lets pass.
pub option_filter-from_call : (passes : ℕ → Bool) (R : ℕ → Bool → Type 0) (o r : Option ℕ) → ((x : ℕ) (b : Bool) → R x b → b ≡ passes x)
    → MatchOption o (r ≡ None) (λ x. (b : Bool) × R x b × (r ≡ then_some b x)) → r ≡ option_filter passes o
option_filter-from_call passes R None r test h = h
option_filter-from_call passes R (Some x) r test h = h.2 ∙ passed h.0 ∙ ap (λ (b : Bool). if b then Some x else None) (test x h.0 h.1)
  where
    passed : (b : Bool) → then_some b x ≡ (if b then Some x else None)
    passed true = refl
    passed false = refl

-- A number that passed.
pub option_filter-some : (passes : ℕ → Bool) (o : Option ℕ) (x : ℕ) → option_filter passes o ≡ Some x → (o ≡ Some x) × (passes x ≡ true)
option_filter-some passes None x h = cc h
option_filter-some passes (Some y) x h =
    elim (cases_Bool (passes y)) [
      | inl good ↦
          let same : Some y ≡ Some x = sym (cond-true (passes y) (Some y) None good) ∙ h in
          (same, ap passes (sym (ap (λ (o : Option ℕ). unwrap_or o 0) same)) ∙ good)
      | inr bad ↦ cc (sym (cond-false (passes y) (Some y) None bad) ∙ h)
    ]

-- A number that was read is no greater than what was asked for.
pub number_in-le : (most : ℕ) (word : List ℕ) (x : ℕ) → number_in most word ≡ Some x → x ≤ most
unfolding number_in
number_in-le most word x h = leb-true x most (option_filter-some (λ n. nat_le n most) (numeral_in 10 DECIMAL_DIGITS word) x h).1
