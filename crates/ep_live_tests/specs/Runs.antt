-- What the tests know of a run of two rows: of its program, a thread, a session on one row. All of it is this project's own.
use Rattle.std.specs.Prelude.{◌≡◌, ℕ, ◌<◌, ◌≤◌, Bool, true, false, List, length, Option, Some, IsTrue, slice_get}
use Rattle.std.specs.Option.{ForSome}
use Rattle.ep_defs.specs.declared.event.EventDef.{EventDef}
use Rattle.ep_defs.specs.declared.session.Write.{Write}
use Rattle.ep_defs.specs.Session.{fits}
use Rattle.ep_pool.specs.Shared.{SeatState, IsSeatOf}
use Rattle.ep_slot.specs.Hand.{HandState}
use Rattle.ep_tie.specs.Tied.{Tied}
use Rattle.ep_guarded.specs.declared.agreed.Agreed.{Agreed}
use Rattle.ep_guarded.specs.declared.agreed.Stand.{Stand}
use Rattle.ep_guarded.specs.declared.grant.Grant.{Grant}
use Rattle.ep_guarded.specs.Granted.{IsGrantFor}
use Rattle.ep_guarded.specs.Tied.{stand_in, left_in, hand_in, grant_in, buffer_number, hand_place}

-- Each thread makes this write so often, and it can be made of one of the program's events.
pub record IsProgram (events : List EventDef) (writes : ℕ → List Write) (turns : ℕ) (write : Write) : Type 0 where
  pub one : length events ≡ 1
  pub event : write.event ≡ 1
  pub fit : IsTrue (fits write)
  pub few : turns ≤ 1000
  pub lengths : (thread : ℕ) → length (writes thread) ≡ turns
  pub each : (thread index : ℕ) → index < turns → slice_get (writes thread) index ≡ Some write

-- There are two rows, and each thread makes this write so often.
pub record IsRun (rows : ℕ) (events : List EventDef) (writes : ℕ → List Write) (turns : ℕ) (write : Write) : Type 0 where
  pub two : rows ≡ 2
  pub program : IsProgram events writes turns write

-- The half is of the tie between a row and its thread, which stands here, on its row or left of it.
pub record IsThread (rows number : ℕ) (left : Bool) (stand : Stand) (half : Tied Agreed) : Type 0 where
  pub row : number < rows
  pub place : half.place ≡ number
  pub here : left ≡ false → stand_in half.value ≡ Some stand
  pub gone : left ≡ true → left_in half.value ≡ Some stand

-- The half is of the tie between a buffer and this hand, or none, of the session that was granted this and has this seat.
pub record IsPlace (rows : ℕ) (events : List EventDef) (number slot : ℕ) (half : Tied Agreed) (grant : Grant) (seat : SeatState) (hand : Option HandState) : Type 0 where
  pub row : number < rows
  pub within : slot < 64
  pub place : half.place ≡ hand_place rows (buffer_number number slot)
  pub admitted : IsGrantFor events grant
  pub seat_is : IsSeatOf grant.pool seat
  pub hand_is : hand_in half.value ≡ hand
  pub granted : ForSome hand (λ _. grant_in half.value ≡ Some grant)
