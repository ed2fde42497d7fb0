use Rattle.std.proofs.Common.{sym, ◌∙◌, rules, tests}
use Rattle.std.proofs.lemmas.Iterator.{YieldsList-from_slice}
use Rattle.std.proofs.lemmas.Iterator.Adapters.{option_map_id}
use Rattle.std.proofs.lemmas.Iterator.Consumers.{YieldsList-from_copied}
use Rattle.std.proofs.lemmas.Iterator.Search.{find_from_yields_List}
use Rattle.ep_defs.specs.Event.{is_same_text}
use Rattle.ep_plan.specs.Lines.{form_of, verbs}
use Rattle.ep_plan.proofs.verb.Verb.named.Goals as goal

pub returns : goal.returns
returns c = sym (option_map_id c.find.result) ∙ find_from_yields_List (λ verb. is_same_text c.args.word.now (form_of verb).name) _ _ c.find.result c.find.ensures.ran (YieldsList-from_copied (YieldsList-from_slice verbs cc)) (λ x b q k. search (rules, tests))
