-- What an own pool keeps of its free chunks. Callers see their number alone.
use Rattle.std.specs.Prelude.{◌≡◌, ◌^◌, ◌<◌, ◌≤◌, ℕ, List, [], ◌∷◌, All, vec_len, vec_capacity}
use Rattle.std.specs.Global.{Vec}
use Rattle.ep_chunk.specs.Record.{Record}

-- The chain has one chunk, which is empty.
abbrev pub IsOneEmpty : List (List Record) → Type 0
IsOneEmpty chain = chain ≡ [] ∷ []

-- The free chunks of a pool of this many, each a chain of its own, for all of which there is room.
pub record IsFree (total : ℕ) (free : Vec (List (List Record))) : Type 0 where
  pub within : vec_len free ≤ total
  pub few : total < 2 ^ 32
  pub reserved : total ≤ vec_capacity free
  pub empty : All IsOneEmpty free.items
