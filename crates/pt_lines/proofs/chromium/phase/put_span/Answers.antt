-- The members are the pieces that were placed.
use Rattle.std.proofs.Common.{drop, ◌∙◌, arith}
use Rattle.std.proofs.lemmas.List.{take_all, length-drop}
use Rattle.pt_print.proofs.Numbers.{appended}
use Rattle.pt_lines.proofs.chromium.phase.put_span.Goals as goal

pub returns : goal.returns
returns c =
    let start = c.place_word-start in
    let all = rw (c.place_word-before.ensures.written, c.place_guid-id.ensures.written, c.place_word-behind.ensures.written) at start.ensures.written in
    appended c.extend_from_slice.result c.args.out.now.items _ _ _ c.extend_from_slice.ensures.items
    (take_all _ (drop start.result start.new.text)
    (omega (arith, length-drop start.result start.new.text, start.ensures.len, c.place_word-before.ensures.len, c.place_guid-id.ensures.len, c.place_word-behind.ensures.len))
    ∙ all)
