-- Texts in UTF-16.
use Rattle.std.proofs.Common.{ℕ, ◌<◌, ◌≤◌, List, [], ◌∷◌, length, arith}
use Rattle.ep_defs.specs.Text.{units_in}

-- Two bytes and more hold a unit.
pub some_unit : (bytes : List ℕ) → 2 ≤ length bytes → 0 < length (units_in bytes)
some_unit [] h = absurd (omega arith)
some_unit (low ∷ []) h = absurd (omega arith)
some_unit (low ∷ high ∷ bytes) h = omega arith
