-- What a session keeps of the threads on which it is open or was (this project's profile).
use Rattle.std.specs.Prelude.{◌≡◌, ℕ, ◌+◌, ◌<◌, ◌≤◌, List, Option, None, vec_len, vec_capacity}
use Rattle.ep_defs.specs.declared.session.Marks.{Marks}
use Rattle.ep_slot.specs.Hand.{HandState}
use Rattle.ep_stream.specs.Hands.{hand_at, count_some}
use Rattle.ep_stream.specs.declared.opened.Named.{Named}
use Rattle.ep_stream.specs.declared.opened.Opened.{Opened}

abbrev pub hands_in : Opened → List (Option HandState)
hands_in opened = opened.hands.items

-- The hand of a row on which the session is open.
abbrev pub hand_on : Opened → ℕ → Option HandState
hand_on opened row = hand_at (hands_in opened) row

-- The threads that the next point names, ascending.
abbrev pub named_in : Opened → List Named
named_in opened = opened.named.items

abbrev pub numbers_in : Opened → List (ℕ × ℕ)
numbers_in opened = opened.numbers.items

-- What the session had of each thread on which it was closed, ascending by thread.
abbrev pub marks_in : Opened → List Marks
marks_in opened = opened.marks.items

-- On how many threads the session was opened.
abbrev pub opened_count : Opened → ℕ
opened_count opened = opened.count

-- There is room for one row more on which the session is opened.
pub record HasRoom (row : ℕ) (opened : Opened) : Type 0 where
  pub hands : row ≤ vec_len opened.hands
  pub named : vec_len opened.named < vec_capacity opened.named
  pub numbers : vec_len opened.named < vec_capacity opened.numbers
  pub marks : opened.count < vec_capacity opened.marks

-- The hand of a row was taken out.
pub record LacksHand (row : ℕ) (opened : Opened) : Type 0 where
  pub row_is : (0 < row) × (row ≤ vec_len opened.hands)
  pub none : hand_at opened.hands.items row ≡ None
  pub fewer : vec_len opened.marks + count_some opened.hands.items < opened.count
