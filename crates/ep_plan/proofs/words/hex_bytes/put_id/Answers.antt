use Rattle.std.proofs.Common.{◌==◌, rules, tests, sym, ◌∙◌, ◌≡◌, [], ◌∷◌}
use Rattle.std.specs.List.{list_all}
use Rattle.std.proofs.lemmas.Bool.{cond-true, cond-false}
use Rattle.std.proofs.lemmas.Iterator.{YieldsList-from_slice}
use Rattle.std.proofs.lemmas.Iterator.Search.{all_from_yields_List}
use Rattle.hex.specs.Hex.{encode_lower}
use Rattle.ep_plan.specs.Words.{id_text}
use Rattle.ep_plan.proofs.words.hex_bytes.put_id.Goals as goal

pub returns-then-all : goal.returns-then-all
unfolding id_text
returns-then-all c =
    let zero = all_from_yields_List (λ byte. byte == 0) _ _ c.all.result c.all.ensures.ran (YieldsList-from_slice c.args.id.now cc) (λ x b q k. search (rules, tests)) in
    let text : id_text c.args.id.now ≡ 45 ∷ [] = cond-true (list_all (λ byte. byte == 0) c.args.id.now) (45 ∷ []) (encode_lower c.args.id.now) (sym zero ∙ c.if-all.true) in
    rw text (search rules)

pub returns : goal.returns
unfolding id_text
returns c =
    let zero = all_from_yields_List (λ byte. byte == 0) _ _ c.all.result c.all.ensures.ran (YieldsList-from_slice c.args.id.now cc) (λ x b q k. search (rules, tests)) in
    let text : id_text c.args.id.now ≡ encode_lower c.args.id.now = cond-false (list_all (λ byte. byte == 0) c.args.id.now) (45 ∷ []) (encode_lower c.args.id.now) (sym zero ∙ c.if-all.false) in
    rw text (search rules)
