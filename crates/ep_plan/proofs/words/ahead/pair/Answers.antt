use Rattle.std.proofs.Common.{Ok, ap, ◌∙◌, arith}
use Rattle.ep_plan.proofs.Ahead.{pair_of}
use Rattle.ep_plan.proofs.words.ahead.pair.Goals as goal

pub returns-then-value-lt256 : goal.returns-then-value-lt256
returns-then-value-lt256 c = λ at.
    let first = c.high_digit_of.ensures.digit (omega (arith, c.if-value-lt256.true)) in
    let second = c.digit_of.ensures.digit (c.digit_of.ensures.other (omega (arith, c.if-value-lt256.true))) in
    pair_of c.args.high c.args.low first.0 c.digit_of.result at first.1 second.0 ∙ ap Ok (omega (arith, first.2))
