-- What contracts see of a pool that seats share. All of it is this project's own.
use Rattle.std.specs.Prelude.{◌≡◌, ℕ}
use Rattle.atomic_table.specs.Seated.{TableId}

-- which pool: no two pools that were made are the same
abbrev pub PoolName : Type 0
PoolName = TableId

-- a pool, and how many chunks it has, free ones and others
pub record SharedPool : Type 0 where
  pub pool : PoolName
  pub total : ℕ

-- a seat of a pool: the chunks and the shares of the whole pool, the shares of this seat, how many chunks were taken
-- and given through it, and how often a take through it found no chunk
pub record SeatState : Type 0 where
  pub pool : PoolName
  pub total : ℕ
  pub seats : ℕ
  pub share : ℕ
  pub taken : ℕ
  pub given : ℕ
  pub dry : ℕ

-- the seat is one of this pool
abbrev pub IsSeatOf : SharedPool → SeatState → Type 0
IsSeatOf pool seat = (seat.pool ≡ pool.pool) × (seat.total ≡ pool.total)
