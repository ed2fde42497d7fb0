-- What holds of each item of a list, by its place.
use Rattle.std.proofs.Common.{◌≡◌, ℕ, ◌<◌, List, length, Some, subst, get_or}
use Rattle.std.specs.Prelude.{slice_get}
use Rattle.std.proofs.lemmas.Option.{slice_get_within, get_or_from_slice_get}

-- It holds of each item where it holds at each place within.
pub each-within : {A : Type 0} (Q : ℕ → A → Type 0) (xs : List A) → ((k : ℕ) (d : A) → k < length xs → Q k (get_or xs k d)) → (k : ℕ) (x : A) → slice_get xs k ≡ Some x → Q k x
each-within Q xs all k x is = subst (Q k) (get_or_from_slice_get xs k x x is) (all k x (slice_get_within xs k x is))
