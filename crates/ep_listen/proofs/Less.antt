-- Events whose numbers rise, each in its place: all that there is without what is missing.
use Rattle.std.proofs.Common.{◌≡◌, ℕ, zero, suc, ◌+◌, ◌-◌, ◌<◌, ◌≤◌, inl, inr, List, [], ◌∷◌, length, map, Some, refl, subst, arith}
use Rattle.std.specs.Prelude.{slice_get}
use Rattle.std.specs.List.{AllByRecursion}
use Rattle.std.proofs.lemmas.Bool.{cases_eq}
use Rattle.std.proofs.lemmas.Option.{same_Some}
use Rattle.ep_defs.specs.declared.session.Write.{Write}
use Rattle.ep_listen.specs.Heard.{HeardEvent}
use Rattle.ep_listen.specs.Shares.{AreRising, Contents, IsLess, Kept, Missing, Nothing, contents_of, numbered, write_contents}

-- No more events than numbers.
pub rising-count : (below most : ℕ) (heard : List HeardEvent) → AreRising below most heard → length heard + below ≤ most
rising-count below most [] rising = omega (arith, rising)
rising-count below most (e ∷ heard) rising =
    let first = rising.0 in
    let later = rising-count e.number most heard rising.1 in
    omega (arith, first, later)

-- Each event is at its place, where the first number is this one.
abbrev AreAt : ℕ → List Write → List HeardEvent → Type 0
AreAt first admitted heard = AllByRecursion (λ e. slice_get (numbered first admitted) (e.number - first) ≡ Some (contents_of e)) heard

at-later : (first below most : ℕ) (write : Write) (rest : List Write) (heard : List HeardEvent) → first ≤ below → AreRising below most heard → AreAt first (write ∷ rest) heard → AreAt (first + 1) rest heard
at-later first below most write rest [] under rising at = tt
at-later first below most write rest (e ∷ heard) under rising at =
    let over = rising.0 in
    let next : e.number - first ≡ suc (e.number - (first + 1)) = omega (arith, over) in
    (rw next at at.0, at-later first e.number most write rest heard (omega (arith, over)) rising.1 at.1)

pub all-less : (count first below most : ℕ) (admitted : List Write) (heard : List HeardEvent) → first ≡ below + 1 → AreRising below most heard → most < first + length admitted → AreAt first admitted heard
    → length heard + count ≡ length admitted → IsLess Contents count (numbered first admitted) (map contents_of heard)
all-less count first below most [] [] e rising within at sum = subst (λ (n : ℕ). IsLess Contents n [] []) (omega (arith, sum)) Nothing
all-less count first below most [] (h ∷ heard) e rising within at sum = absurd (omega (arith, sum))
all-less zero first below most (write ∷ rest) [] e rising within at sum = absurd (omega (arith, sum))
all-less (suc count) first below most (write ∷ rest) [] e rising within at sum =
    let later = all-less count (first + 1) first first rest [] refl (omega arith) (omega arith) tt (omega (arith, sum)) in
    subst (λ (n : ℕ). IsLess Contents n (numbered first (write ∷ rest)) []) (omega arith) (Missing count (write_contents first write) (numbered (first + 1) rest) [] later)
all-less count first below most (write ∷ rest) (h ∷ heard) e rising within at sum =
    let over = rising.0 in
    elim (cases_eq h.number first) [
      | inl here ↦
          let zero_is : h.number - first ≡ 0 = omega (arith, here) in
          let is : Some (write_contents first write) ≡ Some (contents_of h) = rw zero_is at at.0 in
          let rest_rises : AreRising first most heard = rw here at rising.1 in
          let later = all-less count (first + 1) first most rest heard refl rest_rises (omega (arith, within)) (at-later first first most write rest heard (omega arith) rest_rises at.1) (omega (arith, sum)) in
          subst (λ (c : Contents). IsLess Contents count (numbered first (write ∷ rest)) (c ∷ map contents_of heard)) (same_Some (write_contents first write) (contents_of h) is)
          (Kept count (write_contents first write) (numbered (first + 1) rest) (map contents_of heard) later)
      | inr other ↦
          let all_rise : AreRising first most (h ∷ heard) = (omega (arith, over, e, other), rising.1) in
          let few = rising-count first most (h ∷ heard) all_rise in
          let later = all-less (count - 1) (first + 1) first most rest (h ∷ heard) refl all_rise (omega (arith, within)) (at-later first first most write rest (h ∷ heard) (omega arith) all_rise at) (omega (arith, sum, few, within)) in
          subst (λ (n : ℕ). IsLess Contents n (numbered first (write ∷ rest)) (contents_of h ∷ map contents_of heard)) (omega (arith, sum, few, within))
          (Missing (count - 1) (write_contents first write) (numbered (first + 1) rest) (contents_of h ∷ map contents_of heard) later)
    ]
