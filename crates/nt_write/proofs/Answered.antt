-- What a call answered.
use Rattle.std.proofs.Common.{◌≡◌, ◌≢◌, ℕ, Ok, Err, None, refl}
use Rattle.std.specs.Prelude.{Option, Result, OnOk, OnErr}
use Rattle.std.specs.Result.{result_err}
use Rattle.nt_write.specs.declared.fault.Fault.{Fault}
use Rattle.nt_write.specs.declared.fault.Fault.TheVariants.{WriteFault, TooLong, OutOfMemory}
use Rattle.nt_write.specs.Writing.{IsCounted}

-- What holds anyway holds on an error.
pub on_err : {A E P : Type 0} (r : Result A E) → P → OnErr r P
on_err (Ok x) p = tt
on_err (Err e) p = p

-- What follows on an error.
pub on_err-then : {A E P Q : Type 0} (r : Result A E) → (P → Q) → OnErr r P → OnErr r Q
on_err-then (Ok x) f p = tt
on_err-then (Err e) f p = f p

-- What follows on success.
pub on_ok-then : {A E P Q : Type 0} (r : Result A E) → (P → Q) → OnOk r P → OnOk r Q
on_ok-then (Ok x) f p = f p
on_ok-then (Err e) f p = tt

-- What follows of two facts on success.
pub on_ok-both : {A E P Q R : Type 0} (r : Result A E) → (P → Q → R) → OnOk r P → OnOk r Q → OnOk r R
on_ok-both (Ok x) f p q = f p q
on_ok-both (Err e) f p q = tt

-- On success no fault is kept, and what follows of two facts.
pub on_ok-fault-both : {A E P Q R : Type 0} (r : Result A E) (fault : Option E) → fault ≡ result_err r → (fault ≡ None → P → Q → R) → OnOk r P → OnOk r Q → OnOk r R
on_ok-fault-both (Ok x) fault e f p q = f e p q
on_ok-fault-both (Err x) fault e f p q = tt

-- The count of failed writes stays where a call answers no fault of the sink.
pub count-stays : {S A : Type 0} (faults : S → ℕ) (old new : S) (result : Result A Fault) → IsCounted faults old new result → result ≢ Err WriteFault → faults new ≡ faults old
count-stays faults old new (Ok x) c not = c.wrote
count-stays faults old new (Err WriteFault) c not = absurd (not refl)
count-stays faults old new (Err TooLong) c not = absurd (c.too_long refl)
count-stays faults old new (Err OutOfMemory) c not = c.memory refl
