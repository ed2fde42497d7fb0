use Rattle.std.proofs.Common.{◌≡◌, ◌-◌, ◌≤◌, [], ◌∷◌, length}
use Rattle.ep_defs.specs.declared.limits.TheConstants.{RULES}
use Rattle.ep_plan.specs.Lines.{more_than_one, Rule}
use Rattle.ep_plan.specs.Words.{rule_in, all_in}
use Rattle.ep_plan.specs.Cursor.{left, bad_left}
use Rattle.ep_plan.proofs.RuleWords.{behind}
use Rattle.ep_plan.proofs.step.read_rules.Given as goal

abbrev pub invariant-loop-rules : goal.invariant-loop-rules
invariant-loop-rules l = record {
  line : l.words.line ≡ l.fn.words.line;
  bad : bad_left l.fn.words (Rule ∷ []) more_than_one ≡ bad_left l.words [] (RULES - length l.rules.items);
  read : all_in rule_in (left l.fn.words) ≡ behind l.rules.items (left l.words);
  few : length l.rules.items ≤ RULES;
}

abbrev pub decreases-loop-rules : goal.decreases-loop-rules
decreases-loop-rules l = RULES - length l.rules.items
