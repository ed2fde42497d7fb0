-- The hands of a session, by row.
use Rattle.std.proofs.Common.{◌≡◌, ◌≢◌, ℕ, zero, suc, ◌+◌, ◌-◌, ◌<◌, ◌≤◌, true, false, List, [], ◌∷◌, ◌++◌, Option, None, Some, length, refl, ap, ◌∙◌, arith}
use Rattle.std.specs.Prelude.{slice_index_or, slice_set, ◌==◌, if◌then◌else◌}
use Rattle.std.proofs.lemmas.Bool.{eqb-true, eqb-false}
use Rattle.std.proofs.lemmas.List.{get_or-set_same, get_or-set_other}
use Rattle.std.proofs.lemmas.Option.{none-some}
use Rattle.ep_slot.specs.Hand.{HandState}
use Rattle.ep_stream.specs.Hands.{hand_at, count_some}

-- The hand of a row is at the place before its number.
pub hand_at_is : (hands : List (Option HandState)) (row : ℕ) → 0 < row → hand_at hands row ≡ slice_index_or hands (row - 1) None
hand_at_is hands zero some = absurd (omega (arith, some))
hand_at_is hands (suc place) some =
    let e : place ≡ suc place - 1 = omega arith in
    ap (λ (p : ℕ). slice_index_or hands p None) e

-- A hand is put down or taken out on one row.
pub hand_at_set : (hands : List (Option HandState)) (row : ℕ) (hand : Option HandState) (r : ℕ) → 0 < row → row ≤ length hands → hand_at (slice_set hands (row - 1) hand) r ≡ (if r == row then hand else hand_at hands r)
hand_at_set hands row hand r some within =
    elim (r == row) as (λ v. (r == row) ≡ v → hand_at (slice_set hands (row - 1) hand) r ≡ (if v then hand else hand_at hands r)) [
      | true ↦ λ is. ap (hand_at (slice_set hands (row - 1) hand)) (eqb-true r row is)
          ∙ hand_at_is (slice_set hands (row - 1) hand) row some
          ∙ get_or-set_same hands (row - 1) hand None (omega (arith, some, within))
      | false ↦ λ is. other r (eqb-false r row is)
    ]
    refl
  where
    other : (r : ℕ) → r ≢ row → hand_at (slice_set hands (row - 1) hand) r ≡ hand_at hands r
    other zero not = refl
    other (suc place) not = get_or-set_other hands (row - 1) place hand None (λ (e : place ≡ row - 1). not (omega (arith, e, some)))

none_is_some : {A : Type 0} (hand : HandState) → Some hand ≡ None → A
none_is_some hand e = absurd (clash e)
  where
    clash : Some hand ≡ None → ⊥
    clash e = cc

-- One more is put down.
pub count_put : (hands : List (Option HandState)) (place : ℕ) (hand : HandState) → place < length hands → slice_index_or hands place None ≡ None → count_some (slice_set hands place (Some hand)) ≡ count_some hands + 1
count_put [] place hand within none = absurd (omega (arith, within))
count_put (None ∷ hands) zero hand within none = refl
count_put (Some other ∷ hands) zero hand within none = none_is_some other none
count_put (None ∷ hands) (suc place) hand within none = count_put hands place hand (omega (arith, within)) none
count_put (Some other ∷ hands) (suc place) hand within none = ap (λ (n : ℕ). n + 1) (count_put hands place hand (omega (arith, within)) none)

-- One is taken out.
pub count_taken : (hands : List (Option HandState)) (place : ℕ) (hand : HandState) → place < length hands → slice_index_or hands place None ≡ Some hand → count_some hands ≡ count_some (slice_set hands place None) + 1
count_taken [] place hand within some = absurd (omega (arith, within))
count_taken (None ∷ hands) zero hand within some = absurd (none-some hand some)
count_taken (Some other ∷ hands) zero hand within some = refl
count_taken (None ∷ hands) (suc place) hand within some = count_taken hands place hand (omega (arith, within)) some
count_taken (Some other ∷ hands) (suc place) hand within some = ap (λ (n : ℕ). n + 1) (count_taken hands place hand (omega (arith, within)) some)

-- A longer list without more hands.
pub count_longer : (hands : List (Option HandState)) → count_some (hands ++ None ∷ []) ≡ count_some hands
count_longer [] = refl
count_longer (None ∷ hands) = count_longer hands
count_longer (Some hand ∷ hands) = ap (λ (n : ℕ). n + 1) (count_longer hands)

index_longer : (hands : List (Option HandState)) (place : ℕ) → slice_index_or (hands ++ None ∷ []) place None ≡ slice_index_or hands place None
index_longer [] zero = refl
index_longer [] (suc place) = refl
index_longer (hand ∷ hands) zero = refl
index_longer (hand ∷ hands) (suc place) = index_longer hands place

pub hand_at_longer : (hands : List (Option HandState)) (r : ℕ) → hand_at (hands ++ None ∷ []) r ≡ hand_at hands r
hand_at_longer hands zero = refl
hand_at_longer hands (suc place) = index_longer hands place
