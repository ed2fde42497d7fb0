use Rattle.std.proofs.Common.{List, ℕ, ◌++◌, refl, sym, ◌∙◌, ap, append_assoc}
use Rattle.std.specs.Prelude.{codes}
use Rattle.ep_defs.specs.declared.event.EventDef.{EventDef}
use Rattle.pt_lines.specs.declared.origin.Origin.{Origin}
use Rattle.pt_lines.specs.Json.{width_of}
use Rattle.pt_lines.specs.state.Opening.{opening}
use Rattle.pt_lines.proofs.Objects.{event-object-put}
use Rattle.pt_lines.proofs.Placing.{last-split}
use Rattle.std.proofs.lemmas.Result.{on_ok_weaker}
use Rattle.pt_lines.proofs.json.line.put_event.Goals as goal

pub returns : goal.returns
returns c = λ origin processor thread entry tells.
    let second = c.put_described.new.out.items in
    let stacked = c.in_ok-put.ensures in
    let shown = stacked.1.0 in
    let opened = stacked.2 ∙ ap (λ (xs : List ℕ). second ++ xs) stacked.1.2 ∙ sym (append_assoc second shown opening) in
    on_ok_weaker c.put_fields.result
    (λ put.
    let split = last-split c.fields.result.now c.args.event.now.payload.now (codes "}\n") (second ++ shown) c.put_fields.new.out.items put in
    event-object-put origin processor thread c.width_of.result entry c.fields.result.now c.args.event.now.stack.now c.args.event.now.payload.now c.args.out.now.items c.put_place.new.out.items second (second ++ shown) split.0 c.put_fields.new.out.items
    (c.fields.ensures ∙ ap (λ (def : EventDef). def.fields) tells.def) tells.stack tells.payload (c.width_of.ensures.value ∙ ap (λ (n : ℕ). width_of n) (ap (λ (o : Origin). o.address) tells.origin))
    (c.in_ok-put_place.ensures origin processor thread entry tells) (c.in_ok-put_described.ensures origin processor thread entry tells) (shown, stacked.1.1, refl)
    split.1 split.2)
    (c.put_fields.ensures (second ++ shown) opened)
