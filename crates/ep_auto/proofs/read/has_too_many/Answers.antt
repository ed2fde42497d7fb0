use Rattle.std.proofs.Common.{◌==◌, nat_lt, ap, rules, tests}
use Rattle.std.proofs.lemmas.Iterator.Splits.{YieldsList-from_slice_split}
use Rattle.std.proofs.lemmas.Iterator.Consumers.{count_from_yields_List}
use Rattle.ep_plan.specs.Words.{comma}
use Rattle.ep_auto.proofs.read.has_too_many.Goals as goal

pub returns : goal.returns
returns c =
    ap (nat_lt 1000) (count_from_yields_List _ c.count.result c.count.ensures.ran
    (YieldsList-from_slice_split _ (λ byte. byte == comma) c.args.text.now c.split.ensures.rest c.split.ensures.done c.split.ensures.closure (λ x r q k. search (rules, tests))))
