-- What contracts say of one session's rows behind locks. All of it is this project's own.
use Rattle.std.specs.Prelude.{◌≡◌, ℕ, zero, suc, ◌+◌, ◌-◌, ◌*◌, ◌≤◌, ◌==◌, if◌then◌else◌, List, length, Option, None, Some, option_map, slice_get, slice_index, slice_index_or}
use Rattle.std.specs.List.{sum_by}
use Rattle.std.specs.Option.{ForSome, option_map_or}
use Rattle.ep_defs.specs.declared.limits.TheConstants.{SESSIONS, SESSION_THREADS, WRITES}
use Rattle.ep_defs.specs.declared.event.EventDef.{EventDef}
use Rattle.ep_defs.specs.declared.session.Config.{Config}
use Rattle.ep_defs.specs.declared.session.Marks.{Marks}
use Rattle.ep_defs.specs.declared.session.Write.{Write}
use Rattle.ep_pool.specs.Shared.{SeatState, IsSeatOf}
use Rattle.ep_slot.specs.Hand.{HandState}
use Rattle.ep_tie.specs.Tied.{Tied}
use Rattle.ep_guarded.specs.declared.agreed.Agreed.{Agreed}
use Rattle.ep_guarded.specs.declared.grant.Grant.{Grant}
use Rattle.ep_guarded.specs.Granted.{IsGrantFor}
use Rattle.ep_guarded.specs.Tied.{hand_in, grant_in, thread_of, buffer_number, hand_place, AreCounted}

-- ---- the halves of a session's hands

-- The half at a row, the first being row 1, or one of no tie.
abbrev pub half_at : List (Tied Agreed) → ℕ → Tied Agreed
half_at halves zero = record { place = 0; value = None }
half_at halves (suc place) = slice_index_or halves place (record { place = 0; value = None })

-- By row and slot, what the half at the row says, where the slot is the session's.
abbrev pub said_by : {A : Type 0} → (Option Agreed → Option A) → List (Tied Agreed) → ℕ → ℕ → ℕ → Option A
said_by says halves own row slot = if slot == own then says (half_at halves row).value else None

-- The configuration of the session that is open there.
abbrev pub config_in : Option Agreed → Option Config
config_in value = option_map (λ grant. grant.config) (grant_in value)

-- How many chunks were stolen with a half's hand.
abbrev pub stolen_in : Tied Agreed → ℕ
stolen_in half = option_map_or (λ hand. hand.stolen) (hand_in half.value) 0

-- One where a half has a hand.
abbrev pub hands_in : Tied Agreed → ℕ
hands_in half = option_map_or (λ hand. 1) (hand_in half.value) 0

-- ---- the row set of one session

-- The rows of one session: its slot, what it was granted, the halves of its hands by row, its pool's seat, how many writes
-- each thread has begun, while the set has the halves of all threads, the life in which it expects each row, and how many
-- writes the threads are to have begun where the session is closed, if that is asked.
pub record LiveRowsState : Type 0 where
  pub slot : ℕ
  pub grant : Grant
  pub halves : List (Tied Agreed)
  pub seat : SeatState
  pub stands : Option ℕ
  pub lives : List ℕ
  pub ends : Option ℕ

-- The life in which a row is expected, the first being row 1.
abbrev pub life_at : LiveRowsState → ℕ → ℕ
life_at set row = slice_index set.lives (row - 1)

-- By row and slot, the hand that the half at the row agrees on.
abbrev pub expected_in : LiveRowsState → ℕ → ℕ → Option HandState
expected_in set = said_by hand_in set.halves set.slot

-- By row and slot, the configuration that the half at the row agrees on.
abbrev pub configured_in : LiveRowsState → ℕ → ℕ → Option Config
configured_in set = said_by config_in set.halves set.slot

-- By slot, how many chunks were taken with hands and not given back.
abbrev pub out_in : LiveRowsState → ℕ → ℕ
out_in set slot = if slot == set.slot then sum_by stolen_in set.halves + set.seat.taken - set.seat.given else 0

-- Hands pass of the thread that the row serves in the life in which it is expected, and while the threads' halves are
-- here, those that begin where the thread stands.
abbrev pub tests_hand_in : ℕ → LiveRowsState → ℕ → HandState → Type 0
tests_hand_in rows set row hand =
    (hand.thread ≡ thread_of rows (row - 1) (life_at set row)) × ForSome set.stands (λ index. hand.from ≡ index)

-- Marks pass that count all that the session gets, and while the threads' halves are here, those that end where the thread
-- stands; else those that end where it was asked, if it was.
abbrev pub tests_marks_in : List EventDef → (ℕ → List Write) → LiveRowsState → Config → Marks → Type 0
tests_marks_in events writes set config marks =
    AreCounted events writes config marks × ForSome set.stands (λ index. marks.to ≡ index)
    × (set.stands ≡ None → ForSome set.ends (λ index. marks.to ≡ index))

-- ---- what holds at any time

-- A half stands at its place, and tells of what this session was granted.
pub record IsHandHalf (rows slot : ℕ) (grant : Grant) (row : ℕ) (half : Tied Agreed) : Type 0 where
  pub place : half.place ≡ hand_place rows (buffer_number row slot)
  pub granted : ForSome (grant_in half.value) (λ g. g ≡ grant)
  pub few : stolen_in half ≤ WRITES * hands_in half

pub record AreRowsOfOne (rows : ℕ) (events : List EventDef) (slot : ℕ) (grant : Grant) (halves : List (Tied Agreed)) (seat : SeatState) (openings : ℕ) (lives : List ℕ) : Type 0 where
  pub count : length halves ≡ rows
  pub lives_are : length lives ≡ rows
  pub within : slot + 1 ≤ SESSIONS
  pub admitted : IsGrantFor events grant
  pub halves_are : (k : ℕ) (half : Tied Agreed) → slice_get halves k ≡ Some half → IsHandHalf rows slot grant k half
  pub seat_is : IsSeatOf grant.pool seat
  pub seats : seat.seats ≡ rows + 1
  pub share : seat.share + sum_by hands_in halves ≡ rows + 1
  pub given : seat.given ≤ sum_by stolen_in halves + seat.taken
  pub taken : seat.taken + WRITES * sum_by hands_in halves ≤ WRITES * openings
  pub few : openings ≤ SESSION_THREADS

-- The rows of a session that is open nowhere yet, and of which nothing is out.
pub record AreFresh (rows slot : ℕ) (grant : Grant) (seat : SeatState) (stands : Option ℕ) (lives : List ℕ) (set : LiveRowsState) : Type 0 where
  pub slot_is : set.slot ≡ slot
  pub grant_is : set.grant ≡ grant
  pub seat_is : set.seat ≡ seat
  pub stands_are : set.stands ≡ stands
  pub lives_are : set.lives ≡ lives
  pub count : length set.halves ≡ rows
  pub closed : (row s : ℕ) → expected_in set row s ≡ None
  pub given : (s : ℕ) → out_in set s ≡ 0
