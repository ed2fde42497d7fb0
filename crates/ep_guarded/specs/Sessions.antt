-- What an opening, a steal and a closing of a session on a row ask, and what they make. All of it is this project's own.
use Rattle.std.specs.Prelude.{◌≡◌, ℕ, ◌+◌, ◌-◌, ◌<◌, ◌≤◌, List, length, Option, None, Some}
use Rattle.std.specs.List.{All}
use Rattle.std.specs.Option.{ForSome}
use Rattle.ep_defs.specs.declared.limits.TheConstants.{SESSIONS, WRITES}
use Rattle.ep_defs.specs.declared.event.EventDef.{EventDef}
use Rattle.ep_defs.specs.declared.session.Marks.{Marks}
use Rattle.ep_defs.specs.declared.session.Write.{Write}
use Rattle.ep_chunk.specs.Record.{Record}
use Rattle.ep_pool.specs.Shared.{SeatState, IsSeatOf}
use Rattle.ep_pool.specs.declared.limits.TheConstants.{SEAT_COUNTS}
use Rattle.ep_slot.specs.Chain.{records_of, HasRecords}
use Rattle.ep_slot.specs.Hand.{HandState}
use Rattle.ep_row.specs.AtRest.{IsNumbered}
use Rattle.ep_tie.specs.Tied.{Tied}
use Rattle.ep_guarded.specs.declared.agreed.Agreed.{Agreed}
use Rattle.ep_guarded.specs.declared.grant.Grant.{Grant}
use Rattle.ep_guarded.specs.declared.site.Site.{Site}
use Rattle.ep_guarded.specs.Granted.{IsGrantFor}
use Rattle.ep_guarded.specs.Tied.{hand_in, grant_in, hand_after, buffer_number, hand_place, AreTaken, AreMarks, AreCounted}

-- A session that was granted this can be opened here: the half of the tie to the buffer agrees on no hand, and the seat of the
-- session's pool has a share to give.
pub record IsOpenable (rows : ℕ) (events : List EventDef) (site : Site) (grant : Grant) (half : Tied Agreed) (seat : SeatState) : Type 0 where
  pub slot_is : site.slot < SESSIONS
  pub place : half.place ≡ hand_place rows (buffer_number site.number site.slot)
  pub off : hand_in half.value ≡ None
  pub admitted : IsGrantFor events grant
  pub seat_is : IsSeatOf grant.pool seat
  pub share : 1 < seat.share

-- The session of a hand can be closed here: the half of the tie to the buffer agrees on the hand, and the seat of the session's
-- pool can still count what was taken and given through it.
pub record IsClosable (rows : ℕ) (site : Site) (half : Tied Agreed) (hand : HandState) (seat : SeatState) : Type 0 where
  pub slot_is : site.slot < SESSIONS
  pub place : half.place ≡ hand_place rows (buffer_number site.number site.slot)
  pub hand_is : hand_in half.value ≡ Some hand
  pub seat_is : ForSome (grant_in half.value) (λ grant. IsSeatOf grant.pool seat)
  pub few : seat.taken + WRITES < SEAT_COUNTS
  pub few_given : seat.given < SEAT_COUNTS

-- A session was opened on a thread: its hand has taken nothing, the hand's half tells it and what was granted, and the seat
-- of its pool gave a share to the buffer.
pub record Opens (session thread : ℕ) (grant : Grant) (hand : HandState) (half : Option Agreed) (old new : SeatState) : Type 0 where
  pub hand_is : hand ≡ record { session = session; thread = thread; from = hand.from; taken = 0; last = 0; stolen = 0 }
  pub half_is : hand_in half ≡ Some hand
  pub grant_is : grant_in half ≡ Some grant
  pub seat_is : new ≡ record old { share = old.share - 1 }

-- What was pending in a buffer was taken with a hand: the records are the next of the thread's writes that the session gets, each
-- with its number, and the hand's half, which still tells what was granted, agrees on the hand as it is now.
pub record TakesWith (events : List EventDef) (writes : ℕ → List Write) (half new_half : Option Agreed) (hand new_hand : HandState) (chain : List (List Record)) (last : ℕ) : Type 0 where
  pub hand_is : new_hand ≡ hand_after hand (length (records_of chain)) last (length chain)
  pub taken : AreTaken hand (records_of chain) last
  pub numbered : ForSome (grant_in half) (λ grant. All (IsNumbered events grant.config (writes hand.thread) hand.from) (records_of chain))
  pub filled : All HasRecords chain
  pub few : new_hand.stolen ≤ WRITES
  pub half_is : hand_in new_half ≡ Some new_hand
  pub grant_is : grant_in new_half ≡ grant_in half

-- The session of a hand, whose half told this, was closed: what was pending is taken with the hand, the marks count all that
-- the session gets of the thread from its opening up to its closing, and the seat of its pool has the buffer's share back,
-- with all chunks that were taken through it, and was found dry once for each write that the marks tell as refused.
pub record Closes (events : List EventDef) (writes : ℕ → List Write) (half : Option Agreed) (hand : HandState) (chain : List (List Record)) (last : ℕ) (marks : Marks) (old new : SeatState) : Type 0 where
  pub taken : AreTaken hand (records_of chain) last
  pub numbered : ForSome (grant_in half) (λ grant. All (IsNumbered events grant.config (writes hand.thread) hand.from) (records_of chain))
  pub filled : All HasRecords chain
  pub marks_are : AreMarks hand (records_of chain) last marks.to marks
  pub counted : ForSome (grant_in half) (λ grant. AreCounted events writes grant.config marks)
  pub few : hand.stolen + length chain ≤ WRITES
  pub seat_is : new ≡ record old { share = old.share + 1; taken = old.taken + (hand.stolen + length chain); dry = old.dry + marks.refused }
