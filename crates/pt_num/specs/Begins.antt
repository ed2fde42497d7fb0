-- How bytes begin.
use Rattle.std.specs.Prelude.{◌≡◌, ℕ, ◌<◌, ◌^◌, List, ◌++◌, length, take, slice_index}

-- The bytes begin with such a piece, and then come these.
abbrev pub Begins : (List ℕ → Type 0) → List ℕ → List ℕ → Type 0
Begins Piece bytes rest = (front : List ℕ) × Piece front × (bytes ≡ front ++ rest)

-- Each is a byte.
abbrev pub AreBytes : List ℕ → Type 0
AreBytes bytes = (i : ℕ) → slice_index bytes i < 2 ^ 8

-- The list begins with all that it held before.
abbrev pub Keeps : {A : Type 0} → List A → List A → Type 0
Keeps before now = take (length before) now ≡ before
