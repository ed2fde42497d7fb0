-- What holds of the halves that a run begins with. All of it is this project's own.
use Rattle.std.specs.Prelude.{◌≡◌, ℕ, ◌+◌, false, List, None, Some, slice_get}
use Rattle.std.specs.Global.{Box}
use Rattle.ep_tie.specs.Tied.{Tied}
use Rattle.ep_guarded.specs.declared.agreed.Agreed.{Agreed}
use Rattle.ep_guarded.specs.declared.agreed.Agreed.TheVariants as agreed
use Rattle.ep_guarded.specs.Tied.{BufferState, TiedRowState, buffer_number, buffer_place, hand_place, stand_in, hand_in}

-- The half is of the tie between the row with this number and its thread, which has begun so many writes.
pub record IsStand (index number : ℕ) (half : Tied Agreed) : Type 0 where
  pub place : half.place ≡ number
  pub stands : stand_in half.value ≡ Some (record { thread = number + 1; index = index })

-- The halves are of the ties between rows and their threads, by row, each of which has begun so many writes.
abbrev pub AreStands : ℕ → List (Tied Agreed) → Type 0
AreStands index halves = (k : ℕ) (half : Tied Agreed) → slice_get halves k ≡ Some half → IsStand index k half

-- The half is of a tie between a row and this buffer of it, in which nothing is open.
pub record IsRowTie (rows number : ℕ) (half : Tied Agreed) : Type 0 where
  pub place : half.place ≡ buffer_place rows number
  pub nothing : half.value ≡ Some agreed.Nothing

-- The halves are of the ties between a row and its buffers, by slot.
abbrev pub AreRowTies : ℕ → ℕ → List (Tied Agreed) → Type 0
AreRowTies rows row halves = (s : ℕ) (half : Tied Agreed) → slice_get halves s ≡ Some half → IsRowTie rows (buffer_number row s) half

-- The half is of the tie between this buffer and its hand, which there is not yet.
pub record IsHandTie (rows number : ℕ) (half : Tied Agreed) : Type 0 where
  pub place : half.place ≡ hand_place rows number
  pub nothing : half.value ≡ Some agreed.Nothing

-- The halves are of the ties between buffers and their hands, by the buffer's number.
abbrev pub AreHandTies : ℕ → List (Tied Agreed) → Type 0
AreHandTies rows halves = (k : ℕ) (half : Tied Agreed) → slice_get halves k ≡ Some half → IsHandTie rows k half

-- The half is of the tie between the buffer in this slot of a row and its hand, which there is not.
pub record IsSlotTie (rows slot row : ℕ) (half : Tied Agreed) : Type 0 where
  pub place : half.place ≡ hand_place rows (buffer_number row slot)
  pub off : hand_in half.value ≡ None

-- The halves are of the ties between the buffers in this slot and their hands, by row.
abbrev pub AreSlotTies : ℕ → ℕ → List (Tied Agreed) → Type 0
AreSlotTies rows slot halves = (k : ℕ) (half : Tied Agreed) → slice_get halves k ≡ Some half → IsSlotTie rows slot k half

-- The slots, by their numbers.
abbrev pub AreSlots : List ℕ → Type 0
AreSlots slots = (k slot : ℕ) → slice_get slots k ≡ Some slot → slot ≡ k

-- The buffers, by their numbers.
abbrev pub AreBuffers : ℕ → List (Box BufferState) → Type 0
AreBuffers rows buffers = (k : ℕ) (buffer : Box BufferState) → slice_get buffers k ≡ Some buffer → buffer.value.place ≡ buffer_place rows k

-- The row has this number, and is not in a write.
pub record IsRow (number : ℕ) (row : TiedRowState) : Type 0 where
  pub number_is : row.number ≡ number
  pub quiet : row.row.in_write ≡ false

-- The rows, by their numbers.
abbrev pub AreRows : List (Box TiedRowState) → Type 0
AreRows rows = (k : ℕ) (row : Box TiedRowState) → slice_get rows k ≡ Some row → IsRow k row.value
