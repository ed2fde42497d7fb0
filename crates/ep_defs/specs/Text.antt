-- Texts as bytes.
use Rattle.std.specs.Prelude.{ℕ, ◌+◌, ◌*◌, List, [], ◌∷◌}

-- The units of a text in UTF-16: two bytes a unit, the low byte first.
abbrev pub units_in : List ℕ → List ℕ
units_in [] = []
units_in (low ∷ []) = []
units_in (low ∷ high ∷ bytes) = (low + 256 * high) ∷ units_in bytes
