-- An output that stayed as it was took the first part of anything.
use Rattle.std.proofs.Common.{◌≡◌, ℕ, List, [], Bool, Result, Ok, Err, OnErr, refl, sym, ap, ◌∙◌}
use Rattle.std.proofs.lemmas.List.{append-nil}
use Rattle.pt_io.specs.Taken.{TookPart}

pub none-taken : {S : Type 0} (tells : S → Bool) (taken : S → List ℕ) (old new : S) (bytes : List ℕ) → new ≡ old → TookPart tells taken old new bytes
none-taken tells taken old new bytes same = λ told. ([], (bytes, refl), ap taken same ∙ sym (append-nil (taken old)))

-- The same of a call that failed.
pub none-taken_on_err : {X E S : Type 0} (result : Result X E) (tells : S → Bool) (taken : S → List ℕ) (old new : S) (bytes : List ℕ) → OnErr result (new ≡ old) → OnErr result (TookPart tells taken old new bytes)
none-taken_on_err (Ok x) tells taken old new bytes same = tt
none-taken_on_err (Err e) tells taken old new bytes same = none-taken tells taken old new bytes same
