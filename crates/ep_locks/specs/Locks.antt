-- What contracts see of a row of locks. All of it is this project's own.
use Rattle.std.specs.Prelude.{ℕ}
use Rattle.atomic_table.specs.Seated.{TableId}

-- which row of locks: no two rows that were made are the same
abbrev pub RowName : Type 0
RowName = TableId

-- a row of locks, whose numbers are those below the count
pub record LockRow : Type 0 where
  pub row : RowName
  pub count : ℕ

-- one lock that was taken: its row and its number
pub record LockTaken : Type 0 where
  pub row : RowName
  pub number : ℕ
