-- What the tests' runs of two rows begin with. All of it is this project's own.
use Rattle.std.specs.Prelude.{◌≡◌, ℕ, List, length}
use Rattle.ep_defs.specs.declared.event.EventDef.{EventDef}
use Rattle.ep_pool.specs.Shared.{SeatState}
use Rattle.ep_tie.specs.Tied.{Tied}
use Rattle.ep_guarded.specs.declared.agreed.Agreed.{Agreed}
use Rattle.ep_guarded.specs.declared.grant.Grant.{Grant}
use Rattle.ep_guarded.specs.Granted.{IsGrantFor}
use Rattle.ep_live.specs.Made.{AreStands, AreHandTies}

-- The first seat of a pool, for the buffers of two rows and for their session.
abbrev pub first_seat : Grant → SeatState
first_seat grant = record { pool = grant.pool.pool; total = grant.pool.total; seats = 3; share = 3; taken = 0; given = 0; dry = 0 }

-- A session was granted this in a program of these events, and the seat is the first one of its pool.
pub record IsGranted (events : List EventDef) (grant : Grant) (seat : SeatState) : Type 0 where
  pub admitted : IsGrantFor events grant
  pub first : seat ≡ first_seat grant

-- The halves are those of the threads of two rows, which have made no write, and of the hands that are to come.
pub record AreHalves (rows : ℕ) (threads hands : List (Tied Agreed)) : Type 0 where
  pub two : rows ≡ 2
  pub thread_count : length threads ≡ 2
  pub threads_are : AreStands 0 threads
  pub hand_count : length hands ≡ 128
  pub hands_are : AreHandTies rows hands
