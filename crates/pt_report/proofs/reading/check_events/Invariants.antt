-- The events so far were given.
use Rattle.std.proofs.Common.{List, ◌++◌, take}
use Rattle.ep_defs.specs.declared.item.Item.{Item}
use Rattle.nt_names.specs.Told.{AreEvents}
use Rattle.pt_report.specs.state.Read.{IsChecked}
use Rattle.pt_report.proofs.reading.check_events.Given as goal

abbrev pub invariant-loop-event : goal.invariant-loop-event
invariant-loop-event l = (before items : List Item) → AreEvents l.events items → IsChecked before l.fn.report l.fn.misplaced → IsChecked (before ++ take l.event-index items) l.report l.misplaced
