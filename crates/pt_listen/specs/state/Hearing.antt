-- What holds of a run's one session while its events are heard. All of it is this project's own.
use Rattle.std.specs.Prelude.{◌≡◌, ℕ, ◌+◌, ◌<◌, ◌≤◌, Bool, false, List, [], ◌++◌, length, Option, None, Some, IsSome, slice_get}
use Rattle.std.specs.List.{sum_by}
use Rattle.ep_defs.specs.declared.limits.TheConstants.{SESSIONS}
use Rattle.ep_defs.specs.declared.event.EventDef.{EventDef}
use Rattle.ep_defs.specs.declared.session.Config.{Config}
use Rattle.ep_defs.specs.declared.session.Marks.{Marks}
use Rattle.ep_defs.specs.declared.session.Write.{Write}
use Rattle.ep_guarded.specs.Tied.{AreCounted}
use Rattle.ep_model.specs.History.{admitted_from}
use Rattle.ep_pool.specs.Shared.{SharedPool, SeatState}
use Rattle.ep_slot.specs.Hand.{HandState}
use Rattle.ep_listen.specs.Heard.{HeardEvent}
use Rattle.ep_listen.specs.Shares.{Account, AreHeard, no_account}
use Rattle.ep_listen.specs.Listening.{callback_of, has_failed, marks_in, room_of}
use Rattle.ep_listen.specs.declared.listener.Listener.{Listener}
use Rattle.ep_live.specs.RowSet.{LiveRowsState, configured_in, expected_in, out_in}
use Rattle.ep_stream.specs.Hands.{hand_at}
use Rattle.pt_writers.specs.Whole.{IsSpent}

abbrev pub no_config : Config
no_config = record { rules = []; chunks = 0; stackwalk = false; rundown = false }

-- The first seat of a pool has all of so many shares.
abbrev pub first_seat : SharedPool → ℕ → SeatState
first_seat pool seats = record { pool = pool.pool; total = pool.total; seats = seats; share = seats; taken = 0; given = 0; dry = 0 }

-- ---- the rows

-- What can be opened on one session's rows: that session.
abbrev pub can_attach : LiveRowsState → ℕ → Config → Type 0
can_attach set slot config = (slot ≡ set.slot) × (config ≡ set.grant.config)

-- The rows are those of the session in a slot, whose hands are these, by row, and nothing of them is out.
pub record AreItsRows (count slot : ℕ) (config : Config) (set : LiveRowsState) (hands : List (Option HandState)) : Type 0 where
  pub within : slot < SESSIONS
  pub rows : length set.halves ≡ count
  pub slot_is : set.slot ≡ slot
  pub config_is : set.grant.config ≡ config
  pub expected : (row : ℕ) → expected_in set row slot ≡ hand_at hands row
  pub configured : (row : ℕ) (hand : HandState) → hand_at hands row ≡ Some hand → configured_in set row slot ≡ Some config
  pub out : out_in set slot ≡ 0

-- ---- what was heard

-- The hand of a row is that of the row's first thread, has been there from its first write on, and knows what was taken of it.
pub record IsHandBy (accounts : ℕ → Account) (row : ℕ) (hand : HandState) : Type 0 where
  pub thread : hand.thread ≡ row
  pub from : hand.from ≡ 0
  pub taken : hand.taken ≡ (accounts row).taken
  pub last : hand.last ≡ (accounts row).last

-- The marks are those of the thread of the row with this number, from 0, whose thread had made so many writes in the end.
pub record IsMarkBy (events : List EventDef) (writes : ℕ → List Write) (config : Config) (accounts : ℕ → Account) (ends number : ℕ) (mark : Marks) : Type 0 where
  pub thread : mark.thread ≡ number + 1
  pub from : mark.from ≡ 0
  pub to_is : mark.to ≡ ends
  pub taken : mark.taken ≡ (accounts (number + 1)).taken
  pub last : mark.taken + mark.refused ≡ (accounts (number + 1)).last
  pub counted : AreCounted events writes config mark

-- What the session admits of what a thread writes.
abbrev pub admitted_in : List EventDef → (ℕ → List Write) → Config → ℕ → List Write
admitted_in events writes config thread = admitted_from events (Some config) 0 (writes thread)

-- What the callback has heard since it stood for other lists, and what was taken of each thread.
pub record HasHeard {C : Type 0} (has_heard : C → List HeardEvent → Type 0) (count : ℕ) (admitted : ℕ → List Write) (at_first : List HeardEvent → Type 0) (accounts : ℕ → Account) (callback : C) (failed : Bool) : Type 0 where
  pub heard : List HeardEvent
  pub told : (before : List HeardEvent) → at_first before → has_heard callback (before ++ heard)
  pub are : AreHeard admitted accounts failed heard
  pub others : (thread : ℕ) → ((0 < thread) × (thread ≤ count) → ⊥) → accounts thread ≡ no_account

-- A session that is open on the rows behind the first ones, on which it was closed.
pub record IsHearing {C : Type 0} (has_heard : C → List HeardEvent → Type 0) (count : ℕ) (events : List EventDef) (writes : ℕ → List Write) (config : Config) (at_first : List HeardEvent → Type 0) (ends low slot : ℕ) (set : LiveRowsState) (hands : List (Option HandState)) (listener : Listener C) : Type 0 where
  pub rows : AreItsRows count slot config set hands
  pub long : length hands ≡ count
  pub accounts : ℕ → Account
  pub heard : HasHeard has_heard count (admitted_in events writes config) at_first accounts (callback_of listener) (has_failed listener)
  pub hands_are : (row : ℕ) (hand : HandState) → hand_at hands row ≡ Some hand → IsHandBy accounts row hand
  pub opened : (row : ℕ) → low < row → row ≤ count → IsSome (hand_at hands row)
  pub shut : (row : ℕ) → row ≤ low → hand_at hands row ≡ None
  pub room : room_of listener ≡ count
  pub marks : length (marks_in listener) ≡ low
  pub marks_are : (k : ℕ) (mark : Marks) → slice_get (marks_in listener) k ≡ Some mark → IsMarkBy events writes config accounts ends k mark
  pub dry : set.seat.dry ≡ sum_by (λ mark. mark.refused) (marks_in listener)

-- A session that was closed on all rows.
pub record HasEnded {C : Type 0} (has_heard : C → List HeardEvent → Type 0) (count : ℕ) (events : List EventDef) (writes : ℕ → List Write) (config : Config) (at_first : List HeardEvent → Type 0) (ends : ℕ) (callback : C) (marks : List Marks) (failed : Bool) (seat : SeatState) : Type 0 where
  pub accounts : ℕ → Account
  pub heard : HasHeard has_heard count (admitted_in events writes config) at_first accounts callback failed
  pub marks_count : length marks ≡ count
  pub marks_are : (k : ℕ) (mark : Marks) → slice_get marks k ≡ Some mark → IsMarkBy events writes config accounts ends k mark
  pub spent : IsSpent config marks seat
