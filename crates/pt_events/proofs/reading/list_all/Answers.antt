use Rattle.std.proofs.Common.{List, ◌++◌, subst}
use Rattle.std.proofs.lemmas.Result.{on_ok_weaker}
use Rattle.ep_defs.specs.declared.item.Item.{Item}
use Rattle.nt_blocks.specs.Placed.{items_in}
use Rattle.pt_lines.specs.Appends.{Appends}
use Rattle.pt_events.specs.state.Read.{IsChecked}
use Rattle.pt_events.proofs.Placed.{checked-then}
use Rattle.pt_events.proofs.reading.list_all.Goals as goal

pub returns : goal.returns
returns c = λ before text checked.
    let form = c.args.form in
    let events = items_in c.args.lent.now.events in
    let made = c.as_slice.result.now in
    let first = c.in_ok-list_items.ensures before text checked in
    on_ok_weaker c.list_events.result
    (λ second.
    subst (λ (items : List Item). Appends (λ more. IsChecked form (before ++ (items ++ events)) (text ++ more) c.list_events.new.listing c.list_events.new.misplaced) c.args.out.now.items c.list_events.new.out.items) c.as_slice.ensures.value
    (checked-then form before made events text c.args.out.now.items c.list_items.new.out.items c.list_events.new.out.items c.list_items.new.listing c.list_events.new.listing c.list_items.new.misplaced c.list_events.new.misplaced first second))
    (c.list_events.ensures (before ++ made) (text ++ first.0) first.1)
