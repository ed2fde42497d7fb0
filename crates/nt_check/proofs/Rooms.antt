-- Places among the first pairs of a list.
use Rattle.std.proofs.Common.{◌≡◌, ℕ, zero, suc, ◌⊎◌, inl, inr, List, [], ◌∷◌, take, get_or, Some}
use Rattle.std.specs.List.{slice_get}

-- What stands among one pair more stood there before, or is that pair.
pub get-more : (pairs : List (ℕ × ℕ)) (count place : ℕ) (pair : ℕ × ℕ) → slice_get (take (suc count) pairs) place ≡ Some pair → (slice_get (take count pairs) place ≡ Some pair) ⊎ (get_or pairs count (0, 0) ≡ pair)
get-more [] count place pair e = absurd (cc)
get-more (first ∷ pairs) zero zero pair e = inr (cc)
get-more (first ∷ pairs) zero (suc place) pair e = absurd (cc)
get-more (first ∷ pairs) (suc count) zero pair e = inl e
get-more (first ∷ pairs) (suc count) (suc place) pair e = get-more pairs count place pair e
