-- What is no row has no hand: the law that a row set owes.
use Rattle.std.specs.Prelude.{◌≡◌, ℕ, zero, suc, true, false, None, length, nat_le, ◌==◌, if◌then◌else◌, refl}
use Rattle.std.proofs.Common.{ap, suc-le-suc, zero-le}
use Rattle.std.proofs.Math.Nat.{le_of_suc-le-suc}
use Rattle.std.proofs.lemmas.Bool.{leb-true, leb-false}
use Rattle.std.proofs.lemmas.List.{get_or_past}
use Rattle.ep_tie.specs.Tied.{Tied}
use Rattle.ep_guarded.specs.declared.agreed.Agreed.{Agreed}
use Rattle.ep_guarded.specs.Tied.{hand_in}
use Rattle.ep_stream.specs.Rows.{IsRow}
use Rattle.ep_live.specs.RowSet.{LiveRowsState, half_at, expected_in}

no_hand : (set : LiveRowsState) (row : ℕ) → (IsRow (length set.halves) row → ⊥) → hand_in (half_at set.halves row).value ≡ None
no_hand set zero none = refl
no_hand set (suc place) none =
    elim (nat_le (suc place) (length set.halves)) as (λ v. nat_le (suc place) (length set.halves) ≡ v → hand_in (half_at set.halves (suc place)).value ≡ None) [
      | true ↦ λ is. absurd (none (suc-le-suc zero-le, leb-true (suc place) (length set.halves) is))
      | false ↦ λ is. ap (λ (half : Tied Agreed). hand_in half.value) (get_or_past set.halves place (record { place = 0; value = None }) (le_of_suc-le-suc (leb-false (suc place) (length set.halves) is)))
    ]
    refl

-- No hand is expected on what is no row.
pub none_outside : (set : LiveRowsState) (row slot : ℕ) → (IsRow (length set.halves) row → ⊥) → expected_in set row slot ≡ None
none_outside set row slot none =
    elim (slot == set.slot) as (λ v. (if v then hand_in (half_at set.halves row).value else None) ≡ None) [
      | true ↦ no_hand set row none
      | false ↦ refl
    ]
