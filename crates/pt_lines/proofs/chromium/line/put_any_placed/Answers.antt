use Rattle.std.proofs.Common.{◌++◌, refl, sym, ◌∙◌, ap, append_assoc}
use Rattle.std.specs.Prelude.{codes}
use Rattle.std.proofs.lemmas.Result.{on_ok_weaker}
use Rattle.ep_defs.specs.declared.event.EventDef.{EventDef}
use Rattle.pt_print.proofs.Numbers.{appended}
use Rattle.pt_lines.specs.state.Opening.{opening}
use Rattle.pt_lines.specs.state.Pieces.{placed_text}
use Rattle.pt_lines.proofs.Placing.{last-of, last-put}
use Rattle.pt_lines.proofs.chromium.line.put_any_placed.Goals as goal

pub returns : goal.returns
returns c = λ origin processor thread entry tells.
    let old = c.args.out.now.items in
    let fields = c.fields.result.now in
    let payload = c.args.event.payload.now in
    let place = placed_text origin entry in
    let opened = c.in_ok-put_place.ensures origin processor thread entry tells ∙ sym (append_assoc old place opening) in
    on_ok_weaker c.extend_from_slice.result
    (λ (last, is, put). (
      place ++ last,
      (
        last,
        last-of fields payload entry.def.fields entry.payload (codes "}}") last (c.fields.ensures ∙ ap (λ (def : EventDef). def.fields) tells.def) tells.payload is,
        refl,
      ),
      put ∙ append_assoc old place last,
    ))
    (last-put c.extend_from_slice.result fields payload (codes "}}") (old ++ place) c.put_payload.new.out.items _ (c.in_ok-put_payload.ensures (old ++ place) opened)
    (appended c.extend_from_slice.result c.put_payload.new.out.items _ _ _ c.extend_from_slice.ensures.items refl))
