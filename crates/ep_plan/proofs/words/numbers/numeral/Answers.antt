use Rattle.std.proofs.Common.{ap, sym, ◌∙◌, Some, arith, ◌≡◌, ℕ, ◌-◌, ◌*◌, ◌^◌, ◌<◌, ◌≤◌, true, length, get_or, take, inl, inr}
use Rattle.std.specs.Char.{digit_value, is_digit}
use Rattle.std.specs.Str.Parse.{digits_value}
use Rattle.std.specs.List.{list_all}
use Rattle.std.proofs.lemmas.Bool.{and_from, lt-ltb}
use Rattle.std.proofs.lemmas.List.{take_all}
use Rattle.std.proofs.lemmas.List.Folds.{list_all_more}
use Rattle.std.proofs.lemmas.Int.Digits.{digits_value_more}
use Rattle.ep_plan.proofs.Numerals.{numeral_in-digit, numeral_in-length_of, at_most-numeral_in-above, at_most-numeral_in-some, next-le}
use Rattle.ep_plan.specs.Words.{at_most}
use Rattle.ep_plan.proofs.words.numbers.numeral.Goals as goal
use Rattle.ep_plan.proofs.words.numbers.numeral.Goals.{then-is_empty-via-then-is_empty, then-is_empty-via-else-is_empty+then-word-places}

pub returns-then-is_empty : goal.returns-then-is_empty
returns-then-is_empty c =
    elim c.then-is_empty.branch [
      | then-is_empty-via-then-is_empty w ↦ sym (ap (at_most (2 ^ 64 - 1)) (numeral_in-length_of c.args.base c.args.places c.args.word.now (inl (grind (arith)))))
      | then-is_empty-via-else-is_empty+then-word-places w ↦ sym (ap (at_most (2 ^ 64 - 1)) (numeral_in-length_of c.args.base c.args.places c.args.word.now (inr w.if-word-places.true)))
    ]

pub returns-in_err-digit : goal.returns-in_err-digit
returns-in_err-digit c =
    let above : c.args.base ≤ digit_value (get_or c.args.word.now c.loop-byte.byte-index 0) = omega (arith, c.in_err-digit.ensures.value, ap digit_value c.from.ensures) in
    c.from_residual.ensures ∙ sym (ap (at_most (2 ^ 64 - 1)) (numeral_in-digit c.args.base c.args.places c.args.word.now c.loop-byte.byte-index c.loop-byte-test.true above))

pub returns-in_err-checked_mul : goal.returns-in_err-checked_mul
returns-in_err-checked_mul c =
    let all = next-le c.args.base c.args.word.now c.loop-byte.byte-index (omega arith) c.loop-byte-test.true in
    let product = ap (λ (b : ℕ). c.loop-byte.value * b) c.from-in-loop-byte.ensures ∙ ap (λ (v : ℕ). v * c.args.base) c.loop-byte.invariant.value in
    let large : 2 ^ 64 - 1 < digits_value c.args.base c.args.word.now = omega (arith, all, product, c.in_err-checked_mul.ensures) in
    c.from_residual-in_err-checked_mul.ensures ∙ sym (at_most-numeral_in-above (2 ^ 64 - 1) c.args.base c.args.places c.args.word.now large)

pub returns-in_err-value : goal.returns-in_err-value
returns-in_err-value c =
    let all = next-le c.args.base c.args.word.now c.loop-byte.byte-index (omega arith) c.loop-byte-test.true in
    let product = ap (λ (b : ℕ). c.loop-byte.value * b) c.from-in-loop-byte.ensures ∙ ap (λ (v : ℕ). v * c.args.base) c.loop-byte.invariant.value in
    let same = ap digit_value c.from.ensures in
    let large : 2 ^ 64 - 1 < digits_value c.args.base c.args.word.now =
    omega (arith, all, product, same, c.in_ok-digit.ensures.value, c.in_ok-checked_mul.ensures, c.in_err-value.ensures) in
    c.from_residual-in_err-value.ensures ∙ sym (at_most-numeral_in-above (2 ^ 64 - 1) c.args.base c.args.places c.args.word.now large)

pub loop-byte-preserved : goal.loop-byte-preserved
loop-byte-preserved c =
    let more = digits_value_more c.args.base c.args.word.now c.loop-byte.byte-index c.loop-byte-test.true in
    let product = ap (λ (b : ℕ). c.loop-byte.value * b) c.from-in-loop-byte.ensures ∙ ap (λ (v : ℕ). v * c.args.base) c.loop-byte.invariant.value in
    let same = ap digit_value c.from.ensures in
    let below : digit_value (get_or c.args.word.now c.loop-byte.byte-index 0) < c.args.base = omega (arith, same, c.in_ok-digit.ensures.value) in
    let is_one : is_digit (get_or c.args.word.now c.loop-byte.byte-index 0) c.args.base ≡ true = lt-ltb (digit_value (get_or c.args.word.now c.loop-byte.byte-index 0)) c.args.base below in
    record {
      value = omega (arith, more, product, same, c.in_ok-digit.ensures.value, c.in_ok-checked_mul.ensures, c.in_ok-value.ensures);
      are_digits =
          list_all_more (λ digit. is_digit digit c.args.base) c.args.word.now c.loop-byte.byte-index 0 c.loop-byte-test.true
          ∙ and_from (list_all (λ digit. is_digit digit c.args.base) (take c.loop-byte.byte-index c.args.word.now)) (is_digit (get_or c.args.word.now c.loop-byte.byte-index 0) c.args.base) c.loop-byte.invariant.are_digits is_one;
      fits = omega (arith, c.in_ok-value.ensures);
    }

pub returns : goal.returns
returns c =
    let all = take_all c.loop-byte.byte-index c.args.word.now c.loop-byte-test.false in
    let value : c.loop-byte.value ≡ digits_value c.args.base c.args.word.now = c.loop-byte.invariant.value ∙ ap (digits_value c.args.base) all in
    let digits : list_all (λ digit. is_digit digit c.args.base) c.args.word.now ≡ true =
    sym (ap (list_all (λ digit. is_digit digit c.args.base)) all) ∙ c.loop-byte.invariant.are_digits in
    let some : 0 < length c.args.word.now = grind (arith, c.is_empty.ensures, c.if-is_empty.false) in
    ap Some value ∙ sym (at_most-numeral_in-some (2 ^ 64 - 1) c.args.base c.args.places c.args.word.now some c.if-word-places.false digits (omega (arith, c.loop-byte.invariant.fits, value)))
