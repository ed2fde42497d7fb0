use Rattle.std.proofs.Common.{◌≡◌, ◌+◌, List, [], ◌∷◌, ◌++◌, take, sym, ap, ◌∙◌, subst, add-one, append_assoc}
use Rattle.std.proofs.Math.Seq.{take-suc}
use Rattle.std.proofs.lemmas.List.{take_all}
use Rattle.ep_defs.specs.declared.item.Item.{Item}
use Rattle.pt_report.specs.state.Read.{IsChecked}
use Rattle.pt_report.proofs.reading.check_items.Goals as goal

pub loop-item-preserved : goal.loop-item-preserved
loop-item-preserved c = λ before checked.
    let items = c.args.items.now in
    let count = c.loop-item.item-index in
    let item = c.item-item.result in
    let more : take (count + 1) items ≡ take count items ++ item ∷ [] = rw add-one (take-suc items count item c.loop-item-test.true) ∙ ap (λ (i : Item). take count items ++ i ∷ []) (sym c.item-item.is) in
    let all : before ++ take (count + 1) items ≡ (before ++ take count items) ++ item ∷ [] =
    ap (λ (last : List Item). before ++ last) more ∙ sym (append_assoc before (take count items) (item ∷ [])) in
    subst (λ (given : List Item). IsChecked given c.check.new.report c.check.new.misplaced) (sym all) (c.in_ok-check.ensures (before ++ take count items) (c.loop-item.invariant before checked))

pub returns : goal.returns
returns c = λ before checked.
    subst (λ (given : List Item). IsChecked (before ++ given) c.loop-item.report c.loop-item.misplaced) (take_all c.loop-item.item-index c.args.items.now c.loop-item-test.false) (c.loop-item.invariant before checked)
