-- What a pool is to who uses it (this project's profile).
use Rattle.std.specs.Prelude.{ℕ}

-- A pool's chunks.
pub record PoolCounts : Type 0 where
  -- how many it has
  pub total : ℕ
  -- how many of them are not out
  pub free : ℕ
