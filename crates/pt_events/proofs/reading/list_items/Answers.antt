use Rattle.std.proofs.Common.{◌≡◌, ℕ, ◌+◌, List, [], ◌∷◌, ◌++◌, take, sym, ap, ◌∙◌, subst, add-one}
use Rattle.std.proofs.Math.Seq.{take-suc}
use Rattle.std.proofs.lemmas.List.{append-nil, take_all}
use Rattle.ep_defs.specs.declared.item.Item.{Item}
use Rattle.pt_lines.specs.Appends.{Appends}
use Rattle.pt_events.specs.state.Read.{IsChecked}
use Rattle.pt_events.proofs.Placed.{checked-then, same-checked}
use Rattle.pt_events.proofs.reading.list_items.Goals as goal

pub loop-item-init : goal.loop-item-init
loop-item-init c = λ before text checked.
    subst (λ (items : List Item). Appends (λ more. IsChecked c.args.form items (text ++ more) c.args.listing.now c.args.misplaced.now) c.args.out.now.items c.args.out.now.items) (sym (append-nil before))
    (same-checked c.args.form before text c.args.out.now.items c.args.listing.now c.args.misplaced.now checked)

pub loop-item-preserved : goal.loop-item-preserved
loop-item-preserved c = λ before text checked.
    let items = c.args.items.now in
    let count = c.loop-item.item-index in
    let item = c.item-item.result in
    let more : take (count + 1) items ≡ take count items ++ item ∷ [] = rw add-one (take-suc items count item c.loop-item-test.true) ∙ ap (λ (i : Item). take count items ++ i ∷ []) (sym c.item-item.is) in
    let first = c.loop-item.invariant before text checked in
    subst (λ (given : List Item). Appends (λ more. IsChecked c.args.form (before ++ given) (text ++ more) c.list.new.listing c.list.new.misplaced) c.args.out.now.items c.list.new.out.items) (sym more)
    (checked-then c.args.form before (take count items) (item ∷ []) text c.args.out.now.items c.loop-item.out.items c.list.new.out.items c.loop-item.listing c.list.new.listing c.loop-item.misplaced c.list.new.misplaced first
    (c.in_ok-list.ensures (before ++ take count items) (text ++ first.0) first.1))

pub returns : goal.returns
returns c = λ before text checked.
    subst (λ (given : List Item). Appends (λ more. IsChecked c.args.form (before ++ given) (text ++ more) c.loop-item.listing c.loop-item.misplaced) c.args.out.now.items c.loop-item.out.items)
    (take_all c.loop-item.item-index c.args.items.now c.loop-item-test.false) (c.loop-item.invariant before text checked)
