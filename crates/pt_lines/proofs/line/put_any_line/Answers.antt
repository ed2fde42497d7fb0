use Rattle.std.proofs.Common.{◌∙◌}
use Rattle.std.proofs.lemmas.Result.{on_ok_weaker}
use Rattle.ep_defs.specs.declared.event.EventDef.{EventDef}
use Rattle.std.proofs.Common.{ap}
use Rattle.pt_lines.proofs.Steps.{event-put}
use Rattle.pt_lines.proofs.line.put_any_line.Goals as goal

pub returns : goal.returns
returns c = λ origin processor thread entry tells.
    on_ok_weaker c.put_end.result
    (λ e.
    event-put origin processor thread entry c.fields.result.now c.args.event.payload.now c.args.out.now.items c.put_event_start.new.out.items c.put_payload.new.out.items _
    (c.fields.ensures ∙ ap (λ (def : EventDef). def.fields) tells.def) tells.payload
    (c.in_ok-put_event_start.ensures origin processor thread entry tells) c.in_ok-put_payload.ensures e)
    c.put_end.ensures.ok
