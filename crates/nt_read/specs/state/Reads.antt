-- For private functions: what reading part of a piece comes to.
use Rattle.std.specs.Prelude.{◌≡◌, ℕ, List, ◌++◌}
use Rattle.std.specs.Global.{Vec}
use Rattle.ep_defs.specs.declared.item.Item.{Item}
use Rattle.nt_blocks.specs.Verdict.{verdict}
use Rattle.nt_read.specs.declared.object_reader.ObjectReader.{ObjectReader}
use Rattle.nt_read.specs.Answers.{Gives, items_of}
use Rattle.nt_read.specs.Objects.{HasRead}
use Rattle.nt_read.specs.Telling.{TellsItems}

-- After these bytes the reader was fed more, and the items by which there are more now were given.
pub record Feeds (bytes more : List ℕ) (reader : ObjectReader (Vec Item)) (old new : List Item) : Type 0 where
  pub read : HasRead TellsItems (bytes ++ more) reader
  pub gives : Gives (items_of (verdict bytes)) (items_of (verdict (bytes ++ more))) old new

-- The list begins with these.
pub record Begins (first all : List Item) : Type 0 where
  pub rest : List Item
  pub is : all ≡ first ++ rest
