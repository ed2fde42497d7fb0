-- How many bits of a mask are set.
use Rattle.std.proofs.Common.{◌≡◌, ℕ, zero, suc, ◌+◌, ◌<◌, ◌≤◌, refl, ap, ◌∙◌, arith, inl, inr}
use Rattle.std.specs.Prelude.{if◌then◌else◌, Bool}
use Rattle.std.specs.Int.{bit_at}
use Rattle.std.proofs.lemmas.Bool.{cases_eq, eq-eqb, ne_eqb}
use Rattle.ep_row.specs.Bits.{ClearsBit}
use Rattle.ep_live.specs.Live.{bits_set}

-- Of the first bits one less is set, where the cleared one is among them.
cleared : (n slot old new : ℕ) → ClearsBit slot old new → n ≤ 64 → bit_at old slot ≡ 1 → (slot < n → bits_set n new + 1 ≡ bits_set n old) × (n ≤ slot → bits_set n new ≡ bits_set n old)
unfolding bits_set
cleared zero slot old new clears few set' = ((λ h. absurd (omega arith)), λ _. refl)
cleared (suc n) slot old new clears few set' =
    let less = cleared n slot old new clears (omega arith) set' in
    elim (cases_eq n slot) [
      | inl e ↦ let now : bit_at new n ≡ 0 = clears n (omega arith) ∙ ap (λ (v : Bool). if v then 0 else bit_at old n) (eq-eqb n slot e) in
          let was : bit_at old n ≡ 1 = ap (bit_at old) e ∙ set' in
          let same : bits_set n new ≡ bits_set n old = less.1 (omega arith) in
          ((λ h. omega arith), λ h. absurd (omega arith))
      | inr ne ↦ let now : bit_at new n ≡ bit_at old n = clears n (omega arith) ∙ ap (λ (v : Bool). if v then 0 else bit_at old n) (ne_eqb n slot ne) in (
        (λ h. let fewer : bits_set n new + 1 ≡ bits_set n old = less.0 (omega arith) in omega arith),
        (λ h. let same : bits_set n new ≡ bits_set n old = less.1 (omega arith) in omega arith),
      )
    ]

-- A mask of which a bit was cleared has fewer bits.
pub clears-less : (slot old new : ℕ) → slot < 64 → ClearsBit slot old new → bit_at old slot ≡ 1 → bits_set 64 new < bits_set 64 old
clears-less slot old new within clears set' = let one = (cleared 64 slot old new clears (omega arith) set').0 within in omega arith
