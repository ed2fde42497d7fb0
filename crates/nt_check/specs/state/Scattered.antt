-- Values under ids in the order in which they were put in.
use Rattle.std.specs.Prelude.{◌≡◌, ◌<◌, ℕ, List, length, [], ◌∷◌, Option, Some, None, ◌==◌, if◌then◌else◌}
use Rattle.std.specs.List.{slice_get}

-- The value under an id: the first, if there were more.
abbrev pub under : {V : Type 0} → ℕ → List (ℕ × V) → Option V
under id [] = None
under id (held ∷ more) = if held.0 == id then Some held.1 else under id more

-- Each id's place is found.
abbrev pub AreFound : {V : Type 0} → (ℕ → Option ℕ) → List (ℕ × V) → Type 0
AreFound {V} find values =
    (place : ℕ) (held : ℕ × V) → slice_get values place ≡ Some held → find held.0 ≡ Some place

-- The value at a place is that of this id.
abbrev pub IsAt : {V : Type 0} → ℕ → ℕ → List (ℕ × V) → Type 0
IsAt {V} id place values =
    (place < length values) × ((held : ℕ × V) → slice_get values place ≡ Some held → held.0 ≡ id)
