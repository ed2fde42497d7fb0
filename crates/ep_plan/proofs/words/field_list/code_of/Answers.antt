use Rattle.std.proofs.Common.{rules, tests, sym, ap, ◌∙◌, arith, nat_le}
use Rattle.ep_defs.specs.declared.event.TheConstants.{FIRST_CODE, LAST_CODE}
use Rattle.ep_plan.specs.Words.{code_in, option_filter}
use Rattle.ep_plan.proofs.Numerals.{option_filter-from_call, option_filter-some, number_in-le}
use Rattle.ep_plan.proofs.words.field_list.code_of.Goals as goal

pub overflow_cast-result : goal.overflow_cast-result
overflow_cast-result c =
    let passed = option_filter-from_call (λ n. nat_le FIRST_CODE n) _ c.number.result c.filter.result (λ x b k. search (rules, tests)) c.filter.ensures in
    let read = option_filter-some (λ n. nat_le FIRST_CODE n) c.number.result c.in_ok-code.code (sym passed ∙ c.in_ok-code.was) in
    let small = number_in-le LAST_CODE c.args.digits.now c.in_ok-code.code (sym c.number.ensures ∙ read.0) in
    search (rules, arith)

pub returns : goal.returns
unfolding code_in
returns c =
    let passed = option_filter-from_call (λ n. nat_le FIRST_CODE n) _ c.number.result c.filter.result (λ x b k. search (rules, tests)) c.filter.ensures in
    sym c.in_ok-code.was ∙ passed ∙ ap (option_filter (λ n. nat_le FIRST_CODE n)) c.number.ensures

pub returns-in_err-code : goal.returns-in_err-code
unfolding code_in
returns-in_err-code c =
    let passed = option_filter-from_call (λ n. nat_le FIRST_CODE n) _ c.number.result c.filter.result (λ x b k. search (rules, tests)) c.filter.ensures in
    c.from_residual.ensures ∙ sym c.in_err-code.was ∙ passed ∙ ap (option_filter (λ n. nat_le FIRST_CODE n)) c.number.ensures
