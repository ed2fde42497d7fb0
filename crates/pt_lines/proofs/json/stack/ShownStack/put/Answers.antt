-- Its text is copied.
use Rattle.std.proofs.Common.{refl}
use Rattle.pt_print.proofs.Numbers.{appended}
use Rattle.pt_lines.specs.state.Opening.{IsStackOpened}
use Rattle.pt_lines.proofs.Steps.{said}
use Rattle.pt_lines.proofs.json.stack.ShownStack.put.Goals as goal

pub returns-in-Some : goal.returns-in-Some
returns-in-Some c =
    let text = c.in-Some.text.now in
    said (IsStackOpened c.args.width c.args.self.now) c.extend_from_slice.result c.args.out.now.items c.extend_from_slice.new.self.items text c.in-Some.ensures
    (appended c.extend_from_slice.result c.args.out.now.items c.extend_from_slice.new.self.items text text c.extend_from_slice.ensures.items refl)
