use Rattle.std.proofs.Common.{◌*◌, ◌+◌, ℕ, sym, ap, ◌∙◌, arith}
use Rattle.ep_plan.proofs.Ahead.{next_digit}
use Rattle.ep_plan.proofs.words.ahead.leading.Goals as goal

pub overflow_mul-value : goal.overflow_mul-value
overflow_mul-value c =
    let one = next_digit c.args.base c.args.places c.args.text.now c.digits.place c.min-most.result c.digit_of.result c.from-digit.result c.requires.low c.requires.high c.requires.fits c.min-most.ensures c.digits-test.true c.digit_of.ensures.digit c.from-digit.ensures c.if-digit-base.false c.digits.invariant.digits in
    omega (arith, one.fits, one.value, ap (λ (v : ℕ). v * c.args.base) c.digits.invariant.value)

pub overflow_add-value : goal.overflow_add-value
overflow_add-value c =
    let one = next_digit c.args.base c.args.places c.args.text.now c.digits.place c.min-most.result c.digit_of.result c.from-digit.result c.requires.low c.requires.high c.requires.fits c.min-most.ensures c.digits-test.true c.digit_of.ensures.digit c.from-digit.ensures c.if-digit-base.false c.digits.invariant.digits in
    omega (arith, one.fits, one.value, ap (λ (v : ℕ). v * c.args.base) c.digits.invariant.value)

pub digits-preserved : goal.digits-preserved
digits-preserved c =
    let one = next_digit c.args.base c.args.places c.args.text.now c.digits.place c.min-most.result c.digit_of.result c.from-digit.result c.requires.low c.requires.high c.requires.fits c.min-most.ensures c.digits-test.true c.digit_of.ensures.digit c.from-digit.ensures c.if-digit-base.false c.digits.invariant.digits in
    record {
      digits = one.digits;
      value = ap (λ (v : ℕ). v * c.args.base + c.from-digit.result) c.digits.invariant.value ∙ sym one.value;
    }
