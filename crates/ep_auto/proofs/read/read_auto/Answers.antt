-- Part by part.
use Rattle.std.proofs.Common.{◌≡◌, ◌+◌, ◌==◌, length, drop, Some, false, refl, sym, ap, ◌∙◌, rules, tests, arith}
use Rattle.std.proofs.lemmas.List.{length_push}
use Rattle.ep_plan.specs.Words.{comma, parts_at, all_in}
use Rattle.ep_plan.proofs.RuleWords.{behind-none}
use Rattle.ep_auto.specs.Fields.{rule_in, first_wrong}
use Rattle.ep_auto.specs.StartUp.{has_too_many, fields_from}
use Rattle.ep_auto.proofs.Parts.{span, span-split, span-more, part_fits}
use Rattle.ep_auto.proofs.Rules.{read_and_rest, read-more, is-config, fault-in-part, fault-kept, read-end, valid-config}
use Rattle.ep_auto.proofs.Turns.{next_part, all_parts}
use Rattle.ep_auto.proofs.Wrong.{wrong-behind}
use Rattle.ep_auto.proofs.read.read_auto.Goals as goal

pub loop-part-init : goal.loop-part-init
loop-part-init c =
    let all = span-split (λ byte. byte == comma) c.args.text.now in
    record {
      rules = behind-none (all_in rule_in (parts_at comma c.args.text.now)) ∙ ap (λ rules. read_and_rest rules (parts_at comma c.args.text.now)) (sym c.new-rules.ensures.items);
      faults = refl;
      places = omega (arith, all);
    }

pub rule-requires : goal.rule-requires
rule-requires c =
    let next = next_part _ _ _ _ c.args.text.now c.loop-part.yielded c.in-Some.part c.loop-part.yielded_by c.in-Some.is c.next.ensures.steps c.into_iter-part-iterator.ensures.into_iter_gives
    c.split-part-items.ensures.rest c.split-part-items.ensures.done c.split-part-items.ensures.closure (λ x r q k. search (rules, tests)) in
    omega (arith, part_fits c.loop-part.column c.args.text.now c.in-Some.part.now _ _ next c.loop-part.invariant.places (search rules))

pub returns-in_err-rule-clause-wrong : goal.returns-in_err-rule-clause-wrong
returns-in_err-rule-clause-wrong c =
    let next = next_part _ _ _ _ c.args.text.now c.loop-part.yielded c.in-Some.part c.loop-part.yielded_by c.in-Some.is c.next.ensures.steps c.into_iter-part-iterator.ensures.into_iter_gives
    c.split-part-items.ensures.rest c.split-part-items.ensures.done c.split-part-items.ensures.closure (λ x r q k. search (rules, tests)) in
    let few : has_too_many c.args.text.now ≡ false = sym c.has_too_many.ensures ∙ c.if-has_too_many.false in
    let wrong = fault-in-part c.args.text.now c.loop-part.column c.in-Some.part.now _ c.in_err-rule.field-0.0 few
    (c.loop-part.invariant.faults ∙ ap (λ parts. first_wrong (fields_from c.loop-part.column parts)) next) c.in_err-rule.ensures.wrong in
    fault-kept c.from_residual.result c.in_err-rule.field-0.0 _ c.from_residual.ensures.1 wrong

pub overflow_add-column-in-loop-part : goal.overflow_add-column-in-loop-part
overflow_add-column-in-loop-part c =
    let next = next_part _ _ _ _ c.args.text.now c.loop-part.yielded c.in-Some.part c.loop-part.yielded_by c.in-Some.is c.next.ensures.steps c.into_iter-part-iterator.ensures.into_iter_gives
    c.split-part-items.ensures.rest c.split-part-items.ensures.done c.split-part-items.ensures.closure (λ x r q k. search (rules, tests)) in
    omega (arith, part_fits c.loop-part.column c.args.text.now c.in-Some.part.now _ _ next c.loop-part.invariant.places (search rules))

pub loop-part-preserved : goal.loop-part-preserved
loop-part-preserved c =
    let next = next_part _ _ _ _ c.args.text.now c.loop-part.yielded c.in-Some.part c.loop-part.yielded_by c.in-Some.is c.next.ensures.steps c.into_iter-part-iterator.ensures.into_iter_gives
    c.split-part-items.ensures.rest c.split-part-items.ensures.done c.split-part-items.ensures.closure (λ x r q k. search (rules, tests)) in
    let more = span-more c.loop-part.column _ c.in-Some.part.now _ (ap (λ parts. c.loop-part.column + span parts) (sym next) ∙ c.loop-part.invariant.places) in
    let count = length_push c.loop-part.yielded c.in-Some.part in
    let all = parts_at comma c.args.text.now in
    let left = ap (λ place. drop place all) (sym count) in
    record {
      rules =
          c.loop-part.invariant.rules ∙ ap (read_and_rest c.loop-part.rules.items) next
          ∙ read-more c.loop-part.rules.items c.in_ok-rule.field-0 c.in-Some.part.now _ c.in_ok-rule.ensures.meant
          ∙ ap (λ rules. read_and_rest rules (drop (length c.loop-part.yielded + 1) all)) (sym c.in_ok-push.ensures.items) ∙ ap (read_and_rest c.push.new.self.items) left;
      faults =
          c.loop-part.invariant.faults ∙ ap (λ parts. first_wrong (fields_from c.loop-part.column parts)) next
          ∙ wrong-behind c.loop-part.column c.in-Some.part.now _ c.in_ok-rule.field-0 c.in_ok-rule.ensures.meant
          ∙ ap (λ parts. first_wrong (fields_from (c.loop-part.column + (length c.in-Some.part.now + 1)) parts)) left;
      places = let rest = ap span left in omega (arith, more, rest);
    }

pub returns-clause-meant : goal.returns-clause-meant
returns-clause-meant c =
    let whole = all_parts _ _ _ _ c.args.text.now c.loop-part.yielded c.loop-part.yielded_by c.in-None.is c.next.ensures.steps c.into_iter-part-iterator.ensures.into_iter_gives
    c.split-part-items.ensures.rest c.split-part-items.ensures.done c.split-part-items.ensures.closure (λ x r q k. search (rules, tests)) in
    let few : has_too_many c.args.text.now ≡ false = sym c.has_too_many.ensures ∙ c.if-has_too_many.false in
    let read = read-end c.loop-part.rules.items (parts_at comma c.args.text.now) _ whole c.loop-part.invariant.rules in
    is-config c.args.chunks c.args.text.now c.new.result few (read ∙ ap Some (sym c.new.ensures))

pub returns-clause-valid : goal.returns-clause-valid
returns-clause-valid c =
    let whole = all_parts _ _ _ _ c.args.text.now c.loop-part.yielded c.loop-part.yielded_by c.in-None.is c.next.ensures.steps c.into_iter-part-iterator.ensures.into_iter_gives
    c.split-part-items.ensures.rest c.split-part-items.ensures.done c.split-part-items.ensures.closure (λ x r q k. search (rules, tests)) in
    let few : has_too_many c.args.text.now ≡ false = sym c.has_too_many.ensures ∙ c.if-has_too_many.false in
    let read = read-end c.loop-part.rules.items (parts_at comma c.args.text.now) _ whole c.loop-part.invariant.rules in
    valid-config c.args.chunks c.args.text.now c.new.result c.requires.some c.requires.few few (read ∙ ap Some (sym c.new.ensures))
