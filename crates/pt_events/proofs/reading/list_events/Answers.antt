use Rattle.std.proofs.Common.{◌≡◌, ℕ, ◌+◌, ◌<◌, ◌≤◌, List, [], ◌∷◌, ◌++◌, length, take, sym, ap, ◌∙◌, subst, add-one, arith}
use Rattle.std.proofs.Math.Seq.{take-suc}
use Rattle.std.proofs.lemmas.List.{append-nil, take_all}
use Rattle.ep_defs.specs.declared.item.Item.{Item}
use Rattle.nt_blocks.specs.Placed.{items_in}
use Rattle.pt_lines.specs.Appends.{Appends}
use Rattle.pt_events.specs.state.Read.{IsChecked, item_of}
use Rattle.pt_events.proofs.Placed.{checked-then, same-checked}
use Rattle.pt_events.proofs.reading.list_events.Goals as goal

pub loop-index-init : goal.loop-index-init
loop-index-init c = λ before text checked.
    subst (λ (items : List Item). Appends (λ more. IsChecked c.args.form items (text ++ more) c.args.listing.now c.args.misplaced.now) c.args.out.now.items c.args.out.now.items) (sym (append-nil before))
    (same-checked c.args.form before text c.args.out.now.items c.args.listing.now c.args.misplaced.now checked)

pub loop-index-preserved : goal.loop-index-preserved
loop-index-preserved c = λ before text checked.
    let items = items_in c.args.events.now in
    let count = c.loop-index.index in
    let item = item_of c.event.result in
    let there : count < length items = omega (arith, c.len-index-end.ensures, c.loop-index-test.true) in
    let more : take (count + 1) items ≡ take count items ++ item ∷ [] = rw add-one (take-suc items count item there) ∙ ap (λ (i : Item). take count items ++ i ∷ []) (c.event.ensures item) in
    let first = c.loop-index.invariant before text checked in
    subst (λ (given : List Item). Appends (λ more. IsChecked c.args.form (before ++ given) (text ++ more) c.list_event.new.listing c.list_event.new.misplaced) c.args.out.now.items c.list_event.new.out.items) (sym more)
    (checked-then c.args.form before (take count items) (item ∷ []) text c.args.out.now.items c.loop-index.out.items c.list_event.new.out.items c.loop-index.listing c.list_event.new.listing c.loop-index.misplaced c.list_event.new.misplaced first
    (c.in_ok-list_event.ensures (before ++ take count items) (text ++ first.0) first.1))

pub returns : goal.returns
returns c = λ before text checked.
    let items = items_in c.args.events.now in
    let over : length items ≤ c.loop-index.index = omega (arith, c.len-index-end.ensures, c.loop-index-test.false) in
    subst (λ (given : List Item). Appends (λ more. IsChecked c.args.form (before ++ given) (text ++ more) c.loop-index.listing c.loop-index.misplaced) c.args.out.now.items c.loop-index.out.items)
    (take_all c.loop-index.index items over) (c.loop-index.invariant before text checked)
