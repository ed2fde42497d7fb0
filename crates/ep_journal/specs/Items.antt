-- Lists whose items are numbered from 1.
use Rattle.std.specs.Prelude.{ℕ, zero, suc, ◌-◌, Bool, true, false, List, Option, Some, None, slice_get, slice_set}

-- The item of this number.
abbrev pub item : {A : Type 0} → List A → ℕ → Option A
item xs zero = None
item xs (suc place) = slice_get xs place

-- Another item in the place of this number.
abbrev pub with_item : {A : Type 0} → List A → ℕ → A → List A
with_item xs number x = slice_set xs (number - 1) x

-- There is something that passes the test.
abbrev pub passes : {A : Type 0} → (A → Bool) → Option A → Bool
passes p None = false
passes p (Some x) = p x

-- Nothing is there, or it passes the test.
abbrev pub passes_or_none : {A : Type 0} → (A → Bool) → Option A → Bool
passes_or_none p None = true
passes_or_none p (Some x) = p x
