-- Digits at the end of a buffer, and behind blanks.
use Rattle.std.proofs.Common.{◌≡◌, ℕ, ◌+◌, ◌-◌, ◌/◌, ◌%◌, ◌<◌, ◌≤◌, inl, inr, List, [], ◌∷◌, ◌++◌, length, take, drop, replicate, decimal, suc, append_assoc, sym, ap, ◌∙◌, arith, append-nil, length-append}
use Rattle.std.proofs.lemmas.List.{take_all, take-append-drop, take-append-le, take-replicate, drop-append-le, drop-replicate, length-replicate}
use Rattle.std.proofs.lemmas.Bool.{cases_lt}
use Rattle.std.proofs.lemmas.Fmt.{decimal_digit, decimal_step}
use Rattle.pt_print.specs.Printed.{number_part}
use Rattle.pt_lines.specs.Texts.{digits_in}
use Rattle.pt_lines.specs.Json.{in_quotes}

-- What stands from their start on is the digits.
pub digits-text : (text : List ℕ) (number start count : ℕ) → start + length (decimal number) ≡ 20 → drop start text ≡ decimal number ++ drop 20 (replicate 20 0)
    → 20 - start ≤ count → take count (drop start text) ≡ decimal number
digits-text text number start count sum written counted =
    let whole : drop start text ≡ decimal number = written ∙ append-nil (decimal number) in
    ap (λ (xs : List ℕ). take count xs) whole ∙ take_all count (decimal number) (omega (arith, sum, counted))

-- Between quotes they stand with these, from the quote before their start on.
pub quoted-text : (text : List ℕ) (number start count : ℕ) → start + length (decimal number) ≡ 21 → 1 ≤ start
    → drop start text ≡ decimal number ++ drop 21 (replicate 22 34) → take start text ≡ take start (replicate 22 34)
    → 22 - (start - 1) ≤ count → take count (drop (start - 1) text) ≡ in_quotes (decimal number)
quoted-text text number start count sum some written before counted =
    let digits : List ℕ = decimal number in
    let front : take start text ≡ replicate start 34 = before ∙ take-replicate {X = ℕ} start 22 34 (omega (arith, sum)) in
    let whole : text ≡ replicate start 34 ++ (digits ++ 34 ∷ []) =
    sym (take-append-drop start text) ∙ ap (λ (xs : List ℕ). xs ++ drop start text) front ∙ ap (λ (xs : List ℕ). replicate start 34 ++ xs) written in
    let one : start - (start - 1) ≡ 1 = omega (arith, some) in
    let shown : drop (start - 1) text ≡ in_quotes digits =
    ap (λ (xs : List ℕ). drop (start - 1) xs) whole
    ∙ drop-append-le (start - 1) (replicate start 34) (digits ++ 34 ∷ []) (omega (arith, length-replicate {A = ℕ} start 34))
    ∙ ap (λ (xs : List ℕ). xs ++ (digits ++ 34 ∷ [])) (drop-replicate {X = ℕ} (start - 1) start 34 ∙ ap (λ (n : ℕ). replicate n 34) one) in
    ap (λ (xs : List ℕ). take count xs) shown
    ∙ take_all count (34 ∷ (digits ++ 34 ∷ [])) (omega (arith, sum, some, counted, length-append digits (34 ∷ [])))

-- So many blanks.
abbrev blank : ℕ → List ℕ
blank count = replicate count 32

-- Where a number stands behind blanks, what stands from some blanks on is those blanks, the number, and what follows it.
pub placed-text : (text rest : List ℕ) (number start blanks : ℕ) → take start text ≡ blank start → drop start text ≡ decimal number ++ rest
    → blanks ≡ 1 + (10 - length (decimal number)) → blanks ≤ start
    → (drop (start - blanks) text ≡ number_part number ++ rest) × (take (start - blanks) text ≡ blank (start - blanks))
placed-text text rest number start blanks front written count fits =
    let digits : List ℕ = decimal number in
    let whole : text ≡ blank start ++ (digits ++ rest) =
    sym (take-append-drop start text) ∙ ap (λ (xs : List ℕ). xs ++ drop start text) front ∙ ap (λ (xs : List ℕ). blank start ++ xs) written in
    let left : start - (start - blanks) ≡ blanks = omega (arith, fits) in
    let one : blanks ≡ suc (10 - length digits) = omega (arith, count) in (
      ap (λ (xs : List ℕ). drop (start - blanks) xs) whole
          ∙ drop-append-le (start - blanks) (blank start) (digits ++ rest) (omega (arith, length-replicate {A = ℕ} start 32))
          ∙ ap (λ (xs : List ℕ). xs ++ (digits ++ rest)) (drop-replicate {X = ℕ} (start - blanks) start 32 ∙ ap blank (left ∙ one))
          ∙ sym (append_assoc (blank (suc (10 - length digits))) digits rest),
      ap (λ (xs : List ℕ). take (start - blanks) xs) whole
          ∙ take-append-le (start - blanks) (blank start) (digits ++ rest) (omega (arith, length-replicate {A = ℕ} start 32))
          ∙ take-replicate {X = ℕ} (start - blanks) start 32 (omega arith),
    )

-- What stands before a place stands before an earlier one too.
pub earlier-blank : (text : List ℕ) (start end : ℕ) → start ≤ end → take end text ≡ blank end → take start text ≡ blank start
earlier-blank text start end within front =
    let whole : text ≡ blank end ++ drop end text = sym (take-append-drop end text) ∙ ap (λ (xs : List ℕ). xs ++ drop end text) front in
    ap (λ (xs : List ℕ). take start xs) whole
    ∙ take-append-le start (blank end) (drop end text) (omega (arith, within, length-replicate {A = ℕ} end 32))
    ∙ take-replicate {X = ℕ} start end 32 within

-- ---- three digits

three : {a b c x y z : ℕ} → a ≡ x → b ≡ y → c ≡ z → a ∷ b ∷ c ∷ [] ≡ x ∷ y ∷ z ∷ []
three p q r = λ i. p i ∷ q i ∷ r i ∷ []

-- A number's digits behind zeros, where the digits are these.
filled : (number : ℕ) {digits : List ℕ} → decimal number ≡ digits → digits_in 3 number ≡ replicate (3 - length digits) 48 ++ digits
filled number is = ap (λ (ds : List ℕ). replicate (3 - length ds) 48 ++ ds) is

two-digits : (number : ℕ) → 10 ≤ number → number < 100 → decimal number ≡ (48 + number / 10) ∷ (48 + number % 10) ∷ []
two-digits number some few =
    decimal_step number some (omega (arith, few))
    ∙ ap (λ (ds : List ℕ). ds ++ (48 + number % 10) ∷ []) (decimal_digit (number / 10) (omega (arith, few)))

-- The digits of a number below 1000.
pub three-digits : (number : ℕ) → number < 1000 → (48 + number / 100) ∷ (48 + number / 10 % 10) ∷ (48 + number % 10) ∷ [] ≡ digits_in 3 number
three-digits number small =
    elim (cases_lt number 10) [
      | inl one ↦
          three (omega (arith, one)) (omega (arith, one)) (omega (arith, one))
          ∙ sym (filled number (decimal_digit number one))
      | inr some ↦
          elim (cases_lt number 100) [
            | inl two ↦ three (omega (arith, two)) (omega (arith, two)) (omega arith) ∙ sym (filled number (two-digits number some two))
            | inr more ↦
                let tens : number / 10 / 10 ≡ number / 100 = omega arith in
                three (omega (arith, tens)) (omega arith) (omega arith)
                ∙ sym
                (filled number
                (decimal_step number some (omega (arith, small))
                ∙ ap (λ (ds : List ℕ). ds ++ (48 + number % 10) ∷ []) (two-digits (number / 10) (omega (arith, more)) (omega (arith, small)))))
          ]
    ]
