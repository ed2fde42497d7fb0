-- The members are the pieces that were placed.
use Rattle.std.proofs.Common.{drop, ◌∙◌, arith}
use Rattle.std.proofs.lemmas.List.{take_all, length-drop}
use Rattle.pt_print.proofs.Numbers.{appended}
use Rattle.pt_lines.proofs.Uuids.{activities-are}
use Rattle.pt_lines.proofs.json.line.put_activities.Goals as goal

pub returns : goal.returns
returns c =
    let start = c.place_word-start in
    let all = rw (
      c.place_guid-first.ensures.written,
      c.place_word-between.ensures.written,
      c.place_guid-second.ensures.written,
      c.place_word-stack.ensures.written,
    ) at start.ensures.written in
    appended c.extend_from_slice.result c.args.out.now.items _ _ _ c.extend_from_slice.ensures.items
    (take_all _ (drop start.result start.new.text)
    (omega (arith, length-drop start.result start.new.text, start.ensures.len, c.place_guid-first.ensures.len, c.place_word-between.ensures.len, c.place_guid-second.ensures.len, c.place_word-stack.ensures.len))
    ∙ all
    ∙ activities-are c.args.activity.now c.args.related.now)
