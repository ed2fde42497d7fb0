-- One step after another, up to the first fault.
use Rattle.std.specs.Prelude.{Bool, true, false, Option, Some, None, Result, Ok, Err}

-- The next step takes what the one before it answered.
infixl 10 ◌>>=◌
-- The next part is read where this one stands there.
abbrev pub ◌>>=◌ : {E A B : Type 0} → Result A E → (A → Result B E) → Result B E
(Ok x) >>= f = f x
(Err e) >>= f = Err e

-- The fault, where the test fails.
abbrev pub check : {E : Type 0} → Bool → E → Result (Unit {0}) E
check true fault = Ok tt
check false fault = Err fault

-- The value, or else this fault.
abbrev pub or_fault : {E A : Type 0} → Option A → E → Result A E
or_fault (Some x) fault = Ok x
or_fault None fault = Err fault

-- The value, with this fault in place of any other.
abbrev pub or_else_fault : {E F A : Type 0} → Result A E → F → Result A F
or_else_fault (Ok x) fault = Ok x
or_else_fault (Err e) fault = Err fault
