use Rattle.std.proofs.Common.{drop, arith}
use Rattle.std.proofs.lemmas.List.{take_all, length-drop}
use Rattle.pt_print.proofs.Numbers.{appended}
use Rattle.pt_lines.proofs.Placing.{closed-put}
use Rattle.pt_lines.proofs.json.fields.put_fields.Goals as goal

pub returns-in-Some : goal.returns-in-Some
returns-in-Some c = λ old begun.
    let text = c.place_closed.new.text in
    let start = c.in-Some.start in
    closed-put c.extend_from_slice.result c.args.fields.now c.args.payload.now c.args.end.now old c.args.out.now.items (drop start text) _ c.in-Some.ensures.1 begun
    (appended c.extend_from_slice.result c.args.out.now.items _ _ _ c.extend_from_slice.ensures.items
    (take_all _ (drop start text) (omega (arith, length-drop start text))))

pub returns-in-None : goal.returns-in-None
returns-in-None c = c.put_any_fields.ensures
