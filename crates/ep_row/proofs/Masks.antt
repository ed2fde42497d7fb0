-- One bit of a mask.
use Rattle.std.proofs.Common.{◌≡◌, ℕ, ◌*◌, ◌%◌, ◌^◌, ◌<◌, true, false, inl, inr, refl, ap, ◌∙◌, arith}
use Rattle.std.specs.Prelude.{◌==◌, if◌then◌else◌, bit_and, bit_or}
use Rattle.std.specs.Int.{bit_at, bit_not, trailing_zeros, w64}
use Rattle.std.proofs.lemmas.Bool.{cases_eq, eqb-true, eqb-false}
use Rattle.std.proofs.lemmas.Nat.Bits.{bit_at-lt, bit_at_set_same, bit_at_set_other, bit_at_clear_same, bit_at_clear_other, bit_at-trailing_zeros}

-- A bit that is not 1 is 0.
pub bit_zero : (mask s : ℕ) → (bit_at mask s ≡ 1 → ⊥) → bit_at mask s ≡ 0
bit_zero mask s none =
    elim (cases_eq (bit_at mask s) 1) [
      | inl one ↦ absurd (none one)
      | inr other ↦ let small = bit_at-lt mask s in omega arith
    ]

-- A bit is set, and the others stay.
pub set-bit : (mask slot s : ℕ) → slot < 64 → bit_at (bit_or mask (1 * 2 ^ slot % 2 ^ 64)) s ≡ (if s == slot then 1 else bit_at mask s)
set-bit mask slot s within =
    elim (s == slot) as (λ v. (s == slot) ≡ v → bit_at (bit_or mask (1 * 2 ^ slot % 2 ^ 64)) s ≡ (if v then 1 else bit_at mask s)) [
      | true ↦ λ is. ap (bit_at (bit_or mask (1 * 2 ^ slot % 2 ^ 64))) (eqb-true s slot is) ∙ bit_at_set_same w64 mask slot within
      | false ↦ λ is. bit_at_set_other w64 mask slot within s (eqb-false s slot is)
    ]
    refl

-- A bit is cleared, and the others stay.
pub clear-bit : (mask slot s : ℕ) → slot < 64 → s < 64 → bit_at (bit_and mask (bit_not w64 (1 * 2 ^ slot % 2 ^ 64))) s ≡ (if s == slot then 0 else bit_at mask s)
clear-bit mask slot s within small =
    elim (s == slot) as (λ v. (s == slot) ≡ v → bit_at (bit_and mask (bit_not w64 (1 * 2 ^ slot % 2 ^ 64))) s ≡ (if v then 0 else bit_at mask s)) [
      | true ↦ λ is. ap (bit_at (bit_and mask (bit_not w64 (1 * 2 ^ slot % 2 ^ 64)))) (eqb-true s slot is) ∙ bit_at_clear_same w64 mask slot within
      | false ↦ λ is. bit_at_clear_other w64 mask slot within s small (eqb-false s slot is)
    ]
    refl

-- The lowest bit of a number that has one.
pub lowest : (due : ℕ) → 0 < due → due < 2 ^ 64 → (trailing_zeros w64 due < 64) × (bit_at due (trailing_zeros w64 due) ≡ 1) × ((s : ℕ) → s < trailing_zeros w64 due → bit_at due s ≡ 0)
lowest due some fits = bit_at-trailing_zeros w64 due some fits
