-- The members are the pieces that were placed.
use Rattle.std.proofs.Common.{drop, ◌∙◌, sym, arith}
use Rattle.std.proofs.lemmas.List.{take_all, length-drop}
use Rattle.pt_print.proofs.Numbers.{appended}
use Rattle.pt_lines.proofs.json.line.put_place.Goals as goal

pub returns : goal.returns
returns c = λ origin processor thread entry tells.
    let first = c.place_member-start in
    let all = rw (
      c.place_member-thread.ensures.written,
      c.place_member-number.ensures.written,
      c.place_member-processor.ensures.written,
      c.place_member-id.ensures.written,
      c.from.ensures,
      c.from-2.ensures,
    ) at first.ensures.written in
    rw (sym tells.stamp, sym tells.thread, sym tells.number, sym tells.processor, sym tells.thread_id)
    (appended c.extend_from_slice.result c.args.out.now.items _ _ _ c.extend_from_slice.ensures.items
    (take_all _ (drop first.result first.new.text)
    (omega (arith, length-drop first.result first.new.text, first.ensures.len, c.place_member-thread.ensures.len, c.place_member-number.ensures.len, c.place_member-processor.ensures.len, c.place_member-id.ensures.len))
    ∙ all))
