use Rattle.ep_plan.proofs.Printed.{rule-more}
use Rattle.ep_plan.proofs.print.put_rules.Goals as goal

pub loop-rule-preserved : goal.loop-rule-preserved
loop-rule-preserved c = rule-more c.args.line.now.items c.loop-rule.line.items c.put_rule_word.new.line.items c.args.rules.now c.loop-rule.rule-index c.rule-item.result c.loop-rule-test.true c.rule-item.is c.loop-rule.invariant c.in_ok-put_rule_word.ensures
