use Rattle.std.proofs.Common.{◌≡◌, ◌<◌, ◌≤◌, ◌+◌, ◌++◌, All, List, [], ◌∷◌, length, take, sym, ap, ◌∙◌, subst, arith, get_or}
use Rattle.std.proofs.lemmas.List.{take_more, take_all}
use Rattle.std.proofs.lemmas.List.Elements.{All-nil, All-push}
use Rattle.ep_defs.specs.declared.session.Rule.{Rule}
use Rattle.ep_defs.specs.Ranges.{RuleFits}
use Rattle.ep_defs.proofs.ranges.config_fits.Goals as goal

pub loop-rule-init : goal.loop-rule-init
loop-rule-init c = All-nil RuleFits

pub loop-rule-preserved : goal.loop-rule-preserved
loop-rule-preserved c =
    let rules = c.args.config.now.rules in
    let same = c.as_slice-rule-items.ensures in
    let i = c.loop-rule.rule-index in
    let rule = c.rule-item.result in
    let within : i < length rules = omega (arith, c.loop-rule-test.true, ap (length {A = Rule}) same) in
    let is : get_or rules i rule ≡ rule = sym (c.rule-item.is ∙ ap (λ (rs : List Rule). get_or rs i rule) same) in
    let more : take (i + 1) rules ≡ take i rules ++ rule ∷ [] = take_more rules i rule within ∙ ap (λ (r : Rule). take i rules ++ r ∷ []) is in
    subst (All RuleFits) (sym more) (All-push RuleFits (take i rules) rule c.loop-rule.invariant c.rule_fits.ensures)

pub returns : goal.returns
returns c =
    let rules = c.args.config.now.rules in
    let long : length rules ≤ c.loop-rule.rule-index = omega (arith, c.loop-rule-test.false, ap (length {A = Rule}) c.as_slice-rule-items.ensures) in
    record {
      rules = subst (All RuleFits) (take_all c.loop-rule.rule-index rules long) c.loop-rule.invariant;
      chunks = omega arith;
    }
