-- What the tests say of two rows with two lives. All of it is this project's own.
use Rattle.std.specs.Prelude.{◌≡◌, ℕ, ◌<◌, List, length, Some, IsTrue, slice_get}
use Rattle.ep_defs.specs.declared.event.EventDef.{EventDef}
use Rattle.ep_defs.specs.declared.session.Write.{Write}
use Rattle.ep_defs.specs.Session.{fits}
use Rattle.ep_tie.specs.Tied.{Tied}
use Rattle.ep_guarded.specs.declared.agreed.Agreed.{Agreed}
use Rattle.ep_guarded.specs.Tied.{stand_in, left_in}
use Rattle.pt_stream.specs.State.{AreEvents}

-- Each thread makes this write so often, and it can be made of one of the program's events.
pub record IsProgram (events : List EventDef) (writes : ℕ → List Write) (turns : ℕ) (write : Write) : Type 0 where
  pub some : 0 < length events
  pub valid : AreEvents events
  pub event : write.event ≡ 1
  pub fit : IsTrue (fits write)
  pub lengths : (thread : ℕ) → length (writes thread) ≡ turns
  pub each : (thread index : ℕ) → index < turns → slice_get (writes thread) index ≡ Some write

-- The half is of the tie between a row and this thread, which has made so many writes.
pub record IsAt (number thread index : ℕ) (half : Tied Agreed) : Type 0 where
  pub place : half.place ≡ number
  pub stands : stand_in half.value ≡ Some (record { thread = thread; index = index })

-- The same of a thread that has left its row.
pub record HasLeft (number thread index : ℕ) (half : Tied Agreed) : Type 0 where
  pub place : half.place ≡ number
  pub left : left_in half.value ≡ Some (record { thread = thread; index = index })
