use Rattle.std.proofs.Common.{◌≡◌, ℕ, List, [], Some, None, ap, sym, ◌∙◌}
use Rattle.ep_plan.specs.Words.{comma, field_in, fields_in, all_in, parts_at}
use Rattle.ep_plan.proofs.Separated.{dash_or-dash, dash_or-other, read_and_rest-all, read_and_rest-bad}
use Rattle.ep_plan.proofs.words.field_list.fields.Goals as goal

pub returns-then-eq : goal.returns-then-eq
unfolding fields_in
returns-then-eq c =
    ap Some (c.new.ensures ∙ c.new-fields.ensures.items)
    ∙ dash_or-dash [] (λ (text : List ℕ). all_in field_in (parts_at comma text)) c.args.word.now c.as_slice.result.now c.as_slice.ensures c.if-eq.ensures

pub returns-in_default-2 : goal.returns-in_default-2
unfolding fields_in
returns-in_default-2 c =
    let bad : field_in c.first_part.result.0.now ≡ None = sym c.in_ok-field.ensures ∙ c.in_default-2.is in
    let ends = read_and_rest-bad field_in c.loop-rest.fields.items c.loop-rest.rest c.first_part.result.1 c.in-Some.text c.first_part.result.0.now c.in-Some.is c.first_part.ensures.parts bad in
    sym (c.loop-rest.invariant ∙ ends)
    ∙ dash_or-other [] (λ (text : List ℕ). all_in field_in (parts_at comma text)) c.args.word.now c.as_slice.result.now c.as_slice.ensures c.if-eq.ensures

pub returns : goal.returns
unfolding fields_in
returns c =
    let whole = c.loop-rest.invariant ∙ read_and_rest-all field_in c.loop-rest.fields.items c.loop-rest.rest c.in_default.is in
    ap Some c.new-2.ensures ∙ sym whole
    ∙ dash_or-other [] (λ (text : List ℕ). all_in field_in (parts_at comma text)) c.args.word.now c.as_slice.result.now c.as_slice.ensures c.if-eq.ensures
