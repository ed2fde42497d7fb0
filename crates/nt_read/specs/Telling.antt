-- What stands for the items of an object.
use Rattle.std.specs.Prelude.{◌≡◌, List, Result, Ok}
use Rattle.std.specs.Global.{Vec}
use Rattle.ep_defs.specs.declared.item.Item.{Item}
use Rattle.nt_blocks.specs.Refusals.{Refusal}

-- The items are told themselves.
abbrev pub TellsItems : Vec Item → List Item → Type 0
TellsItems told items = items ≡ told.items

-- The items that are read are told.
pub record IsTold (read : Result (List Item) Refusal) (Tells : List Item → Type 0) : Type 0 where
  pub found : List Item
  pub reads : read ≡ Ok found
  pub tells : Tells found
