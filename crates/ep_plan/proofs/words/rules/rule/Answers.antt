use Rattle.std.proofs.Common.{◌-◌, ◌^◌, refl, sym, ◌∙◌, arith}
use Rattle.ep_plan.specs.Words.{colon, parts_at, rule_in}
use Rattle.ep_plan.proofs.Numerals.{number_in-le}
use Rattle.ep_plan.proofs.Separated.{rule-is, rule_of-keywords, rule_of-level, rule_of-other}
use Rattle.ep_plan.proofs.words.rules.rule.Goals as goal

pub returns-in_default : goal.returns-in_default
unfolding rule_in
returns-in_default c = sym (rule_of-other (parts_at colon c.args.word.now) c.in_default.ensures.none)

pub returns-in_default-hexadecimal : goal.returns-in_default-hexadecimal
returns-in_default-hexadecimal c =
    sym (rule-is _ _ _ _ _ _ _ c.in-Some.ensures.some refl (sym c.hexadecimal.ensures ∙ c.in_default-hexadecimal.is) refl ∙ rule_of-keywords _ _)

pub returns-in_default-number : goal.returns-in_default-number
returns-in_default-number c =
    sym (rule-is _ _ _ _ _ _ _ c.in-Some.ensures.some refl refl (sym c.number.ensures ∙ c.in_default-number.is) ∙ rule_of-level _ _)

pub returns-in_default-2 : goal.returns-in_default-2
returns-in_default-2 c = sym (rule-is _ _ _ _ _ _ _ c.in-Some.ensures.some (sym c.in_ok-name.ensures ∙ c.in_default-2.is) refl refl)

pub overflow_cast-result : goal.overflow_cast-result
overflow_cast-result c =
    let small = number_in-le (2 ^ 32 - 1) c.in-Some.level.now c.in-Some-number.level (sym c.number.ensures ∙ c.in-Some-number.is) in
    omega arith

pub returns : goal.returns
returns c =
    sym (rule-is _ _ _ _ _ _ _ c.in-Some.ensures.some (sym c.in_ok-name.ensures ∙ c.in-Some-2.is) (sym c.hexadecimal.ensures ∙ c.in-Some-hexadecimal.is) (sym c.number.ensures ∙ c.in-Some-number.is))
