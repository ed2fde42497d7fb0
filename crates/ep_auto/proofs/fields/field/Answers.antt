-- By the parts that `split` gives.
use Rattle.std.proofs.Common.{◌≡◌, ℕ, List, [], Option, Some, None, ◌==◌, option_map, refl, ap, unwrap_or, ◌∙◌, rules, tests, Bor}
use Rattle.std.proofs.lemmas.Iterator.Splits.{YieldsList-from_slice_split}
use Rattle.std.proofs.lemmas.Iterator.Consumers.{nth_from_yields_List}
use Rattle.std.proofs.lemmas.Option.{unwrap_or-slice_get}
use Rattle.ep_plan.specs.Words.{colon, parts_at}
use Rattle.ep_auto.proofs.fields.field.Goals as goal

unwrap-now : (o : Option (Bor (List ℕ))) (other : Bor (List ℕ)) → (unwrap_or o other).now ≡ unwrap_or (option_map (λ text. text.now) o) other.now
unwrap-now None other = refl
unwrap-now (Some text) other = refl

pub returns : goal.returns
returns c =
    let found = nth_from_yields_List c.nth.result _ c.args.place c.nth.ensures.ran
    (YieldsList-from_slice_split _ (λ byte. byte == colon) c.args.part.now c.split.ensures.rest c.split.ensures.done c.split.ensures.closure (λ x r q k. search (rules, tests))) in
    ap (λ (text : Bor (List ℕ)). text.now) c.unwrap_or.ensures ∙ unwrap-now c.nth.result _
    ∙ ap (λ (o : Option (List ℕ)). unwrap_or o []) found ∙ unwrap_or-slice_get (parts_at colon c.args.part.now) c.args.place []
