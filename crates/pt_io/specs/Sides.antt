-- The two sides of an object that gives bytes and takes bytes (this project's profile).
use Rattle.std.specs.Prelude.{ℕ, Bool, false, List, []}

-- What an object has given and may still give, and how often a read has failed.
pub record ReadSide : Type 0 where
  pub tells : Bool
  pub given : List ℕ
  pub left : List ℕ
  pub may_give : ℕ
  pub faults : ℕ

-- What an object has taken, and how often a write has failed.
pub record WriteSide : Type 0 where
  pub tells : Bool
  pub taken : List ℕ
  pub faults : ℕ

-- The side of an object that is no source.
abbrev pub no_read_side : ReadSide
no_read_side = record { tells = false; given = []; left = []; may_give = 0; faults = 0 }

-- The side of an object that is no sink.
abbrev pub no_write_side : WriteSide
no_write_side = record { tells = false; taken = []; faults = 0 }
