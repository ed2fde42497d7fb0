-- What each row's last thread has written.
use Rattle.std.proofs.Common.{◌≡◌, ℕ, ◌+◌, [], ◌∷◌, ◌++◌, arith}
use Rattle.std.specs.Prelude.{map}
use Rattle.std.specs.List.{range_with_len}
use Rattle.std.proofs.lemmas.List.FromFn.{map-range_with_len_more}
use Rattle.pt_load.specs.declared.plan.Plan.{Plan}
use Rattle.pt_roles.specs.World.{last_of}

-- A row's last thread with the number of its writes.
abbrev pub row-of : Plan → ℕ → ℕ → ℕ × ℕ
row-of plan lives number = (last_of plan lives number, plan.writes)

-- The rows of one row more.
pub rows-more : (plan : Plan) (lives n : ℕ) → map (row-of plan lives) (range_with_len 0 (n + 1)) ≡ map (row-of plan lives) (range_with_len 0 n) ++ row-of plan lives n ∷ []
rows-more plan lives n = map-range_with_len_more (row-of plan lives) 0 n n (omega arith)
