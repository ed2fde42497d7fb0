-- Things by their places: the halves of the ties of a set, and what is there of the free slots.
use Rattle.std.specs.Prelude.{◌≡◌, ℕ, zero, suc, Bool, Option, Some, is_some, List, [], ◌∷◌, ◌++◌, map, slice_get}
use Rattle.ep_tie.specs.Tied.{Tied}

module _ {V : Type 0} where
  -- The half at each place is that of this place.
  abbrev pub AreInPlace : List (Tied V) → Type 0
  AreInPlace halves = (place : ℕ) (half : Tied V) → slice_get halves place ≡ Some half → half.place ≡ place

  abbrev pub value_of : Tied V → Option V
  value_of half = half.value

  abbrev pub values_of : List (Tied V) → List (Option V)
  values_of halves = map value_of halves

  -- This many halves, by place from 0, all with this value.
  abbrev pub numbered : ℕ → V → List (Tied V)
  numbered zero v = []
  numbered (suc n) v = numbered n v ++ record { place = n; value = Some v } ∷ []

module _ {A : Type 0} where
  -- Each thing is as it is to be at its place.
  abbrev pub AreAt : (ℕ → A → Type 0) → List A → Type 0
  AreAt is things = (place : ℕ) (thing : A) → slice_get things place ≡ Some thing → is place thing

  -- The same where some places are empty.
  abbrev pub AreThere : (ℕ → A → Type 0) → List (Option A) → Type 0
  AreThere is places = (place : ℕ) (thing : A) → slice_get places place ≡ Some (Some thing) → is place thing

  -- At which places something is there.
  abbrev pub there_in : List (Option A) → List Bool
  there_in places = map is_some places

  -- Things that are all there.
  abbrev pub each_some : List A → List (Option A)
  each_some things = map Some things
