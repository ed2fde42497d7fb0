-- What contracts see of ties. All of it is this project's own.
use Rattle.std.specs.Prelude.{ℕ, [], Option}
use Rattle.atomic_table.specs.Seated.{TableId}

-- which set of ties: no two sets that were made are the same
abbrev pub TieSet : Type 0
TieSet = TableId

-- the name of no set of ties
abbrev pub no_ties : TieSet
no_ties = record { words = 0; slots = 0; views_name = 0; atom = 0; block = 0; offset = 0; slot_names = [] }

-- one half of a tie: the place that it shares with one other half, and its value, which is always there
pub record Tied (V : Type 0) : Type 0 where
  pub place : ℕ
  pub value : Option V

-- a set of which no tie was made yet, and the number of places that it may have
pub record Unmade : Type 0 where
  pub ties : TieSet
  pub places : ℕ

-- the number of ties that were made, at the places below it, of all places
pub record Made : Type 0 where
  pub made : ℕ
  pub places : ℕ
