-- What is there of the free slots.
use Rattle.std.proofs.Common.{◌≡◌, ℕ, zero, suc, Bool, true, List, [], ◌∷◌, ◌++◌, length, replicate, refl, ap, arith, inl, inr}
use Rattle.ep_journal.proofs.Items.{get-snoc-is}
use Rattle.ep_registry.specs.Places.{AreAt, there_in, each_some}

-- Where all things are there each place has one.
pub all-there : {A : Type 0} (xs : List A) (n : ℕ) → length xs ≡ n → there_in (each_some xs) ≡ replicate n true
all-there [] zero h = refl
all-there [] (suc n) h = cc
all-there (x ∷ xs) zero h = cc
all-there (x ∷ xs) (suc n) h = ap (λ (bs : List Bool). true ∷ bs) (all-there xs n (omega arith))

-- One thing more, as it is to be at its place.
pub at-more : {A : Type 0} (is : ℕ → A → Type 0) (xs : List A) (x : A) → AreAt is xs → is (length xs) x → AreAt is (xs ++ x ∷ [])
at-more is xs x h own place thing at = elim (get-snoc-is xs place thing x at) [ inl t ↦ rw (t.0, t.1) own | inr t ↦ h place thing t ]
