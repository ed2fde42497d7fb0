-- The items so far were listed.
use Rattle.std.proofs.Common.{ℕ, List, ◌++◌, take}
use Rattle.ep_defs.specs.declared.item.Item.{Item}
use Rattle.pt_lines.specs.Appends.{Appends}
use Rattle.pt_events.specs.state.Read.{IsChecked}
use Rattle.pt_events.proofs.reading.list_items.Given as goal

abbrev pub invariant-loop-item : goal.invariant-loop-item
invariant-loop-item l =
    (before : List Item) (text : List ℕ) → IsChecked l.fn.form before text l.fn.listing l.fn.misplaced
    → Appends (λ more. IsChecked l.fn.form (before ++ take l.item-index l.items) (text ++ more) l.listing l.misplaced) l.fn.out.items l.out.items
