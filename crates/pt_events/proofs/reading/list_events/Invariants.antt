-- The events so far were listed.
use Rattle.std.proofs.Common.{ℕ, List, ◌++◌, take}
use Rattle.ep_defs.specs.declared.item.Item.{Item}
use Rattle.nt_blocks.specs.Placed.{items_in}
use Rattle.pt_lines.specs.Appends.{Appends}
use Rattle.pt_events.specs.state.Read.{IsChecked}
use Rattle.pt_events.proofs.reading.list_events.Given as goal

abbrev pub invariant-loop-index : goal.invariant-loop-index
invariant-loop-index l =
    (before : List Item) (text : List ℕ) → IsChecked l.fn.form before text l.fn.listing l.fn.misplaced
    → Appends (λ more. IsChecked l.fn.form (before ++ take l.index (items_in l.events)) (text ++ more) l.listing l.misplaced) l.fn.out.items l.out.items
