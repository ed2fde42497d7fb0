use Rattle.std.proofs.Common.{◌≡◌, ◌++◌, take, map}
use Rattle.ep_plan.specs.Words.{rule_text}
use Rattle.ep_plan.specs.Printing.{spaced}
use Rattle.ep_plan.proofs.print.put_rules.Given as goal

abbrev pub invariant-loop-rule : goal.invariant-loop-rule
invariant-loop-rule l = l.line.items ≡ l.fn.line.items ++ spaced (map rule_text (take l.rule-index l.rules))
