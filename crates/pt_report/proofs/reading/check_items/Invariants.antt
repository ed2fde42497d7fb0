-- The items so far were given.
use Rattle.std.proofs.Common.{List, ◌++◌, take}
use Rattle.ep_defs.specs.declared.item.Item.{Item}
use Rattle.pt_report.specs.state.Read.{IsChecked}
use Rattle.pt_report.proofs.reading.check_items.Given as goal

abbrev pub invariant-loop-item : goal.invariant-loop-item
invariant-loop-item l = (before : List Item) → IsChecked before l.fn.report l.fn.misplaced → IsChecked (before ++ take l.item-index l.items) l.report l.misplaced
