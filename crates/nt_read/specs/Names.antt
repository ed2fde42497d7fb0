-- What is told where of an event what it names is enough.
use Rattle.std.specs.Prelude.{◌≡◌, List, ◌++◌}
use Rattle.ep_defs.specs.declared.item.Item.{Item}
use Rattle.nt_names.specs.Told.{AreEvents}
use Rattle.nt_read.specs.declared.told.Told.{Told}

-- The items are those that are told, and then the events that are.
pub record TellsNames (told : Told) (items : List Item) : Type 0 where
  pub named : List Item
  pub are : AreEvents told.events.items named
  pub all : items ≡ told.items.items ++ named
