-- What steps one after another went through.
use Rattle.std.proofs.Common.{◌≡◌, Result, Ok, Err, refl}
use Rattle.std.specs.Prelude.{IsOk}
use Rattle.pt_num.specs.Steps.{◌>>=◌}

-- Where a step and those after it answer, so does the step.
pub bind_inv : {E A B : Type 0} (p : Result A E) (f : A → Result B E) (y : B) → (p >>= f) ≡ Ok y → (x : A) × (p ≡ Ok x) × (f x ≡ Ok y)
bind_inv (Ok x) f y e = (x, refl, e)
bind_inv (Err fault) f y e = absurd (cc)

-- Answers that are the same have the same value.
pub ok-same : {E A : Type 0} (x y : A) → ◌≡◌ {A = Result A E} (Ok x) (Ok y) → x ≡ y
ok-same x y e = cc

-- What answers has a value.
pub ok_value : {E A : Type 0} (p : Result A E) → IsOk p → (x : A) × (p ≡ Ok x)
ok_value (Ok x) ok = (x, refl)
ok_value (Err fault) ok = absurd (cc)

-- Where two steps answer, so does each.
pub both_ok : {E A B : Type 0} (p : Result A E) (f : A → Result B E) → IsOk (p >>= f) → (x : A) × (p ≡ Ok x) × IsOk (f x)
both_ok (Ok x) f ok = (x, refl, ok)
both_ok (Err fault) f ok = absurd (cc)

-- No answer is a fault.
pub ok_no_fault : {E A : Type 0} (p : Result A E) (fault : E) → IsOk p → p ≡ Err fault → ⊥
ok_no_fault (Ok x) fault ok e = cc
ok_no_fault (Err other) fault ok e = cc
