-- The path of a peer's socket, as a text.
use Rattle.std.specs.Prelude.{ℕ, List, [], ◌∷◌, Option, Some, None}

-- It has a byte or more.
abbrev pub target_in : List ℕ → Option (List ℕ)
target_in [] = None
target_in (byte ∷ word) = Some (byte ∷ word)
