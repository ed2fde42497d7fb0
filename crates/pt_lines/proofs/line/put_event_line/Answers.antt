use Rattle.std.proofs.Common.{drop, arith}
use Rattle.std.proofs.lemmas.List.{take_all, length-drop}
use Rattle.pt_print.proofs.Numbers.{appended}
use Rattle.pt_lines.specs.declared.form.Form.TheVariants as forms
use Rattle.pt_lines.specs.Line.{Event}
use Rattle.pt_lines.specs.Forms.{IsLine}
use Rattle.pt_lines.proofs.Steps.{said}
use Rattle.pt_lines.proofs.line.put_event_line.Goals as goal

pub returns-in-Some : goal.returns-in-Some
returns-in-Some c = λ origin processor thread entry tells.
    let text = c.place_event.new.text in
    let start = c.in-Some.start in
    said (IsLine forms.Lines (Event origin processor thread entry)) c.extend_from_slice.result c.args.out.now.items _ (drop start text) (c.in-Some.ensures.1 origin processor thread entry tells)
    (appended c.extend_from_slice.result c.args.out.now.items _ _ _ c.extend_from_slice.ensures.items
    (take_all _ (drop start text) (omega (arith, length-drop start text))))

pub returns-in-None : goal.returns-in-None
returns-in-None c = c.put_any_line.ensures
