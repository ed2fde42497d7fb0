use Rattle.std.proofs.Common.{◌≡◌, map, drop}
use Rattle.pt_client.specs.Words.{rules_in}
use Rattle.ep_plan.proofs.RuleWords.{behind}
use Rattle.pt_client.proofs.words.rules_of.Given as goal

abbrev pub invariant-loop-word : goal.invariant-loop-word
invariant-loop-word l = rules_in (map (λ word. word.now) l.words) ≡ behind l.rules.items (map (λ word. word.now) (drop l.word-index l.words))
