use Rattle.std.proofs.Common.{◌==◌, sym, ◌∙◌, rules, tests}
use Rattle.std.proofs.lemmas.Iterator.{YieldsList-from_slice}
use Rattle.std.proofs.lemmas.Iterator.Search.{position_from_yields_List}
use Rattle.ep_plan.proofs.Separated.{parts-some, parts-none}
use Rattle.ep_plan.proofs.words.split.first_part.Goals as goal

pub returns-in-Some-clause-parts : goal.returns-in-Some-clause-parts
returns-in-Some-clause-parts c =
    let place = position_from_yields_List (λ byte. byte == c.args.separator) _ _ c.position.result c.position.ensures.ran (YieldsList-from_slice c.args.text.now cc) (λ x b q k. search (rules, tests)) in
    parts-some c.args.separator c.args.text.now c.in-Some.end (sym place ∙ c.in-Some.is)

pub returns-in-None-clause-parts : goal.returns-in-None-clause-parts
returns-in-None-clause-parts c =
    let place = position_from_yields_List (λ byte. byte == c.args.separator) _ _ c.position.result c.position.ensures.ran (YieldsList-from_slice c.args.text.now cc) (λ x b q k. search (rules, tests)) in
    parts-none c.args.separator c.args.text.now (sym place ∙ c.in-None.is)
