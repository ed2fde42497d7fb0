use Rattle.std.proofs.Common.{◌≡◌, [], Some, ap, ◌∙◌}
use Rattle.std.proofs.lemmas.Result.{IfOk-weaker}
use Rattle.ep_plan.specs.Words.{event_name_in, provider_in}
use Rattle.ep_plan.proofs.Separated.{dash_or-dash, dash_or-other}
use Rattle.ep_plan.proofs.words.names.event_name.Goals as goal

pub returns-then-eq : goal.returns-then-eq
unfolding event_name_in
returns-then-eq c = ap Some (c.new-then-eq.ensures ∙ c.new.ensures.items) ∙ dash_or-dash [] provider_in c.args.word.now c.as_slice.result.now c.as_slice.ensures c.if-eq.ensures

pub returns : goal.returns
unfolding event_name_in
returns c =
    let same = dash_or-other [] provider_in c.args.word.now c.as_slice.result.now c.as_slice.ensures c.if-eq.ensures in
    IfOk-weaker c.provider.result (λ name. name ≡ provider_in c.args.word.now) (λ name. name ≡ event_name_in c.args.word.now) (λ name h. h ∙ same) c.provider.ensures
