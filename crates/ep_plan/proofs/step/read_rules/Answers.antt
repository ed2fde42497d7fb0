use Rattle.std.proofs.Common.{◌≡◌, ◌⊎◌, inl, inr, suc, ◌-◌, ◌≤◌, ◌<◌, [], ◌∷◌, length, ap, ◌∙◌, arith, length-append}
use Rattle.std.proofs.lemmas.Result.{err_from_is_err_and}
use Rattle.ep_defs.specs.declared.limits.TheConstants.{RULES}
use Rattle.ep_plan.specs.Lines.{more_than_one, bad_at}
use Rattle.ep_plan.specs.Cursor.{left, bad_left}
use Rattle.ep_plan.proofs.CursorWords.{through}
use Rattle.ep_plan.proofs.RuleWords.{behind-next, room-next, room-none, further-rule}
use Rattle.ep_plan.proofs.step.read_rules.Goals.{then-loop-rules-test+else-len-lt-RULES, else-loop-rules-test}
use Rattle.ep_plan.proofs.step.read_rules.Goals as goal

pub returns-in_err-rule-2-clause-bad : goal.returns-in_err-rule-2-clause-bad
returns-in_err-rule-2-clause-bad c = λ at column why e.
    let bad = c.in_err-rule-2.ensures.bad at column why (through c.from_residual-in_err-rule-2.result c.in_err-rule-2.field-0.0 (err_from_is_err_and c.from_residual-in_err-rule-2.result c.from_residual-in_err-rule-2.ensures.1) at column why e) in
    let room : RULES - length c.loop-rules.rules.items ≡ suc (more_than_one - length c.loop-rules.rules.items) = omega arith in
    (bad.line_is ∙ c.loop-rules.invariant.line, c.loop-rules.invariant.bad ∙ ap (bad_left c.loop-rules.words []) room ∙ further-rule c.loop-rules.words (more_than_one - length c.loop-rules.rules.items) c.loop-rules-test.ensures.more ∙ bad.bad [] (more_than_one - length c.loop-rules.rules.items))

pub loop-rules-preserved : goal.loop-rules-preserved
loop-rules-preserved c =
    let took = c.in_ok-rule-2.ensures.took in
    let items = c.in_ok-add-2.ensures in
    let before = c.loop-rules.rules.items in
    let after = c.add-in-loop-rules.new.rules.items in
    let few : length before < RULES = omega arith in
    let longer = ap length items ∙ length-append before (c.in_ok-rule-2.field-0 ∷ []) in
    record {
      line = took.1.line ∙ c.loop-rules.invariant.line;
      bad = room-next _ c.loop-rules.words c.rule-in-loop-rules.new.self before after took.0 c.in_ok-rule-2.field-0 took.1 items few c.loop-rules.invariant.bad;
      read = behind-next _ _ _ before after took.0 c.in_ok-rule-2.field-0 took.1.words took.2 items c.loop-rules.invariant.read;
      few = omega arith;
    }

pub returns-in_err-end-clause-bad : goal.returns-in_err-end-clause-bad
returns-in_err-end-clause-bad c = λ at column why e.
    let bad = c.in_err-end.ensures.bad at column why (through c.from_residual-in_err-end.result c.in_err-end.field-0.0 (err_from_is_err_and c.from_residual-in_err-end.result c.from_residual-in_err-end.ensures.1) at column why e) in
    let done : (RULES ≤ length c.loop-rules.rules.items) ⊎ (left c.loop-rules.words ≡ []) = elim c.loop-rules-test.branch [ then-loop-rules-test+else-len-lt-RULES w ↦ inl (omega arith) | else-loop-rules-test w ↦ inr w.loop-rules-test.ensures.over ] in
    (bad.0 ∙ c.loop-rules.invariant.line, room-none _ c.loop-rules.words c.loop-rules.rules.items (bad_at column why) done c.loop-rules.invariant.bad bad.1)
