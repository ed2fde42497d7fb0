use Rattle.std.proofs.Common.{refl}
use Rattle.pt_print.proofs.Numbers.{appended}
use Rattle.pt_lines.proofs.Placing.{last-put}
use Rattle.pt_lines.proofs.json.fields.put_any_fields.Goals as goal

pub returns : goal.returns
returns c = λ old begun.
    last-put c.extend_from_slice.result c.args.fields.now c.args.payload.now c.args.end.now old c.put_payload.new.out.items _ (c.in_ok-put_payload.ensures old begun)
    (appended c.extend_from_slice.result c.put_payload.new.out.items _ _ _ c.extend_from_slice.ensures.items refl)
