-- What holds of each item of a list that grows at its end.
use Rattle.std.proofs.Common.{◌≡◌, ℕ, zero, suc, List, [], ◌∷◌, ◌++◌, length, Some, subst}
use Rattle.std.specs.Prelude.{slice_get}
use Rattle.std.proofs.lemmas.Option.{none-some}

-- One value is one.
pub same : {A : Type 0} (a b : A) → Some a ≡ Some b → a ≡ b
same a b e = cc

-- It holds of each where it holds of each before and of the one that was pushed.
pub each-push : {A : Type 0} (Q : ℕ → A → Type 0) (xs : List A) (y : A) → ((k : ℕ) (x : A) → slice_get xs k ≡ Some x → Q k x) → Q (length xs) y → (k : ℕ) (x : A) → slice_get (xs ++ y ∷ []) k ≡ Some x → Q k x
each-push Q [] y each here zero x is = subst (Q 0) (same y x is) here
each-push Q [] y each here (suc k) x is = absurd (none-some x is)
each-push Q (first ∷ xs) y each here zero x is = each 0 x is
each-push Q (first ∷ xs) y each here (suc k) x is = each-push (λ n. Q (suc n)) xs y (λ k. each (suc k)) here k x is
