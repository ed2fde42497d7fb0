-- What is told where no item is made of an event.
use Rattle.std.specs.Prelude.{◌≡◌, List, ◌++◌}
use Rattle.ep_defs.specs.declared.item.Item.{Item}
use Rattle.nt_blocks.specs.Placed.{items_in}
use Rattle.nt_read.specs.declared.lent.Lent.{Lent}

-- The items that are told: those that were made, and then the events of a body.
abbrev pub told_by : Lent → List Item
told_by lent = lent.items.items ++ items_in lent.events

-- The items are those.
abbrev pub TellsInPlace : Lent → List Item → Type 0
TellsInPlace lent items = items ≡ told_by lent
