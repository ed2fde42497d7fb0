-- Digits behind blanks.
use Rattle.std.proofs.Common.{◌≡◌, ℕ, ◌+◌, ◌-◌, ◌≤◌, cond, Result, Ok, Err, List, ◌∷◌, ◌++◌, length, take, drop, replicate, decimal, suc, sym, ap, ◌∙◌, arith, append-nil, length-append}
use Rattle.std.specs.Prelude.{OnOk, is_ok}
use Rattle.std.proofs.lemmas.List.{take_all, take-append-drop, take-replicate, drop-append-le, drop-replicate, length-replicate}
use Rattle.pt_print.specs.Printed.{number_part}

-- So many blanks.
abbrev pub blank : ℕ → List ℕ
blank count = replicate count 32

-- Where digits stand behind blanks, what stands from some blanks on is those blanks and the digits.
behind-blanks : (text digits : List ℕ) (start blanks : ℕ) → take start text ≡ blank start → drop start text ≡ digits → blanks ≤ start
    → drop (start - blanks) text ≡ blank blanks ++ digits
behind-blanks text digits start blanks before written fits =
    let whole : text ≡ blank start ++ digits =
    sym (take-append-drop start text) ∙ ap (λ (xs : List ℕ). xs ++ drop start text) before ∙ ap (λ (xs : List ℕ). blank start ++ xs) written in
    let left : start - (start - blanks) ≡ blanks = omega (arith, fits) in
    let front : drop (start - blanks) (blank start) ≡ blank blanks = drop-replicate {X = ℕ} (start - blanks) start 32 ∙ ap blank left in
    ap (λ (xs : List ℕ). drop (start - blanks) xs) whole
    ∙ drop-append-le (start - blanks) (blank start) digits (omega (arith, length-replicate {A = ℕ} start 32))
    ∙ ap (λ (xs : List ℕ). xs ++ digits) front

-- What stands from the blanks of a number on is the part of a line that it fills.
pub number-text : (text : List ℕ) (number start blanks count : ℕ) → start + length (decimal number) ≡ 21 → drop start text ≡ decimal number ++ drop 21 (blank 21)
    → take start text ≡ take start (blank 21) → blanks ≡ 10 - length (decimal number) → 1 + blanks ≤ start → 21 - (start - (1 + blanks)) ≤ count
    → take count (drop (start - (1 + blanks)) text) ≡ number_part number
number-text text number start blanks count sum written before fewer fits counted =
    let digits : List ℕ = decimal number in
    let front : take start text ≡ blank start = before ∙ take-replicate {X = ℕ} start 21 32 (omega (arith, sum)) in
    let back : drop start text ≡ digits = written ∙ append-nil digits in
    let shown : drop (start - (1 + blanks)) text ≡ blank (1 + blanks) ++ digits = behind-blanks text digits start (1 + blanks) front back fits in
    let next : 1 + blanks ≡ suc blanks = omega arith in
    ap (λ (xs : List ℕ). take count xs) shown
    ∙ take_all count (blank (1 + blanks) ++ digits)
    (omega (arith, sum, fits, counted, length-append (blank (1 + blanks)) digits, length-replicate {A = ℕ} (1 + blanks) 32))
    ∙ ap (λ (n : ℕ). blank n ++ digits) next
    ∙ ap (λ (n : ℕ). 32 ∷ (blank n ++ digits)) fewer

-- What a call that appends says, where it appends this text.
pub appended : {E A : Type 0} (answer : Result A E) (old new piece text : List ℕ) → new ≡ cond (is_ok answer) (old ++ piece) old → piece ≡ text
    → OnOk answer (new ≡ old ++ text)
appended (Ok x) old new piece text e is = e ∙ ap (λ (xs : List ℕ). old ++ xs) is
appended (Err fault) old new piece text e is = tt
