use Rattle.std.proofs.Common.{drop, ◌∙◌, append-nil, arith}
use Rattle.std.proofs.lemmas.List.{take_all, length-drop}
use Rattle.pt_print.proofs.Numbers.{appended}
use Rattle.pt_lines.proofs.value.put_guid.Goals as goal

pub returns : goal.returns
returns c =
    let put = c.place_guid-start in
    appended c.extend_from_slice.result c.args.out.now.items _ _ _ c.extend_from_slice.ensures.items
    (take_all _ (drop put.result put.new.text) (omega (arith, length-drop put.result put.new.text, put.ensures.len))
    ∙ put.ensures.written
    ∙ append-nil _)
