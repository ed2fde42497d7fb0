use Rattle.std.proofs.Common.{◌∙◌, ap, arith, rules, tests, ◌-◌, ◌^◌, ◌≤◌, nat_le}
use Rattle.ep_plan.specs.declared.limits.TheConstants.{DECIMAL_DIGITS}
use Rattle.ep_plan.specs.Words.{number_in, at_most, numeral_in}
use Rattle.ep_plan.proofs.Numerals.{at_most-at_most, option_filter-from_call}
use Rattle.ep_plan.proofs.words.numbers.number.Goals as goal

pub returns : goal.returns
unfolding number_in
returns c =
    let small : c.args.most ≤ 2 ^ 64 - 1 = omega arith in
    option_filter-from_call (λ n. nat_le n c.args.most) _ c.numeral.result c.filter.result (λ x b k. search (rules, tests, tests)) c.filter.ensures
    ∙ ap (at_most c.args.most) c.numeral.ensures ∙ at_most-at_most c.args.most (2 ^ 64 - 1) (numeral_in 10 DECIMAL_DIGITS c.args.word.now) small
