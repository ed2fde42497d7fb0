-- The hands of a session, by row.
use Rattle.std.specs.Prelude.{ℕ, zero, suc, ◌+◌, List, [], ◌∷◌, Option, None, Some, slice_index_or}
use Rattle.ep_slot.specs.Hand.{HandState}

-- The hand of a row. Rows are numbered from 1.
abbrev pub hand_at : List (Option HandState) → ℕ → Option HandState
hand_at hands zero = None
hand_at hands (suc place) = slice_index_or hands place None

-- How many there are.
abbrev pub count_some : List (Option HandState) → ℕ
count_some [] = 0
count_some (None ∷ hands) = count_some hands
count_some (Some hand ∷ hands) = count_some hands + 1
