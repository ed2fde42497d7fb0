-- What contracts say of rows and buffers behind locks. All of it is this project's own.
use Rattle.std.specs.Prelude.{◌≡◌, ℕ, zero, suc, ◌+◌, ◌*◌, ◌^◌, ◌<◌, ◌≤◌, List, Option, Some, IsSome, IsTrue, length, slice_get}
use Rattle.std.specs.Int.{bit_at}
use Rattle.std.specs.Option.{ForSome}
use Rattle.ep_defs.specs.declared.limits.TheConstants.{SESSIONS, WRITES}
use Rattle.ep_defs.specs.declared.event.EventDef.{EventDef}
use Rattle.ep_defs.specs.declared.session.Write.{Write}
use Rattle.ep_defs.specs.Session as valid
use Rattle.ep_guarded.specs.declared.agreed.Agreed.{Agreed}
use Rattle.ep_guarded.specs.declared.agreed.Stand.{Stand}
use Rattle.ep_guarded.specs.Tied.{stand_in}
use Rattle.ep_locks.specs.Locks.{RowName}

-- How many rows there are, and which row of locks they stand behind.
pub record LiveState : Type 0 where
  pub rows : ℕ
  pub locks : RowName

-- A thread that has begun one write more.
abbrev pub with_one : Stand → Stand
with_one stand = record stand { index = stand.index + 1 }

-- The write is the next of the thread of which a half tells: of an event of the program, and one that a thread can make.
pub record IsNextWrite (events : List EventDef) (writes : ℕ → List Write) (half : Option Agreed) (write : Write) : Type 0 where
  pub here : IsSome (stand_in half)
  pub few : ForSome (stand_in half) (λ s. s.index < WRITES)
  pub next : ForSome (stand_in half) (λ s. slice_get (writes s.thread) s.index ≡ Some write)
  pub some : 0 < write.event
  pub event : write.event ≤ length events
  pub fits : IsTrue (valid.fits write)

-- There is a row for each thread, and a buffer for each row and slot, and the events are those of the program.
pub record IsWhole (rows : ℕ) (events : List EventDef) (row_locks buffer_locks : ℕ) (kept : List EventDef) : Type 0 where
  pub rows_are : row_locks ≡ rows
  pub buffers_are : buffer_locks ≡ rows * SESSIONS
  pub events_are : kept ≡ events
  pub few : rows < 2 ^ 32

-- How many of the first bits are set.
unfoldable pub bits_set : ℕ → ℕ → ℕ
bits_set zero mask = 0
bits_set (suc n) mask = bit_at mask n + bits_set n mask
