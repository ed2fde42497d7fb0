use Rattle.std.proofs.Common.{drop, arith}
use Rattle.std.proofs.lemmas.List.{take_all, length-drop}
use Rattle.pt_print.proofs.Numbers.{appended}
use Rattle.pt_lines.specs.state.Ending.{IsPlacedEnd}
use Rattle.pt_lines.proofs.Steps.{said}
use Rattle.pt_lines.proofs.chromium.line.put_placed.Goals as goal

pub returns-in-Some : goal.returns-in-Some
returns-in-Some c = λ origin processor thread entry tells.
    let text = c.place_event.new.text in
    let start = c.in-Some.start in
    said (IsPlacedEnd origin entry) c.extend_from_slice.result c.args.out.now.items _ (drop start text) (c.in-Some.ensures.1 origin processor thread entry tells)
    (appended c.extend_from_slice.result c.args.out.now.items _ _ _ c.extend_from_slice.ensures.items
    (take_all _ (drop start text) (omega (arith, length-drop start text))))

pub returns-in-None : goal.returns-in-None
returns-in-None c = c.put_any_placed.ensures
