use Rattle.std.proofs.Common.{◌≡◌, ◌++◌, List, sym, ap, ◌∙◌, subst, append_assoc}
use Rattle.ep_defs.specs.declared.item.Item.{Item}
use Rattle.pt_report.specs.state.Read.{IsChecked}
use Rattle.pt_report.proofs.Steps.{on-ok}
use Rattle.pt_report.proofs.reading.check_all.Goals as goal

pub returns : goal.returns
returns c = λ before items tells checked.
    let told = c.args.told.now in
    let report = c.check_events.new.report in
    let misplaced = c.check_events.new.misplaced in
    let first = c.in_ok-check_items.ensures before checked in
    let are = rw (sym c.as_slice-2.ensures.value) at tells.are in
    let all : (before ++ c.as_slice.result.now) ++ tells.named ≡ before ++ items =
    append_assoc before c.as_slice.result.now tells.named
    ∙ ap (λ (l : List Item). before ++ (l ++ tells.named)) c.as_slice.ensures.value
    ∙ ap (λ (l : List Item). before ++ l) (sym tells.all) in
    on-ok c.check_events.result (λ checked. subst (λ (given : List Item). IsChecked given report misplaced) all checked) (c.check_events.ensures (before ++ c.as_slice.result.now) tells.named are first)
