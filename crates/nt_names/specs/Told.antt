-- Items by what they name.
use Rattle.std.specs.Prelude.{◌≡◌, List, [], ◌∷◌, ◌++◌, Result, Ok}
use Rattle.ep_defs.specs.declared.item.Item.{Item}
use Rattle.nt_blocks.specs.Refusals.{Refusal}
use Rattle.nt_check.specs.Events.{EventRest, event_item}
use Rattle.nt_names.specs.declared.take.EventAt.{EventAt}

-- The event of these names at this offset that says this besides.
abbrev pub item_of : EventAt → EventRest → Item
item_of event rest = record { at = event.at; kind = event_item event.names rest }

-- The item is this event.
pub record IsEvent (event : EventAt) (item : Item) : Type 0 where
  pub rest : EventRest
  pub is : item ≡ item_of event rest

-- The items are these events, in this order.
abbrev pub AreEvents : List EventAt → List Item → Type 0
AreEvents [] [] = Unit {0}
AreEvents [] (item ∷ items) = ⊥
AreEvents (event ∷ events) [] = ⊥
AreEvents (event ∷ events) (item ∷ items) = IsEvent event item × AreEvents events items

-- The events that are read stand after those that were there.
pub record AppendsEvents (read : Result (List Item) Refusal) (before after : List EventAt) : Type 0 where
  pub found : List Item
  pub reads : read ≡ Ok found
  pub told : List EventAt
  pub are : AreEvents told found
  pub added : after ≡ before ++ told
