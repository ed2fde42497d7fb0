-- Bytes at the front of others, and what a call that reads a field answers.
use Rattle.std.specs.Prelude.{◌≡◌, ◌≢◌, ℕ, ◌≤◌, List, [], ◌∷◌, length, drop, Option, Some, None, Result, Ok, Err, IsErr}
use Rattle.ipc_body.specs.declared.request.RequestFault.{RequestFault}
use Rattle.ipc_body.specs.declared.request.RequestFault.TheVariants as fault
use Rattle.pt_num.specs.Fields.{Field, Short}

-- One byte.
abbrev pub byte_at : List ℕ → Field ℕ
byte_at [] = Err Short
byte_at (b ∷ bytes) = Ok (b, bytes)

-- A call that reads a field from the front of some bytes answers its value and the number of its bytes, or that there
-- is none.
abbrev pub Reads : {A E : Type 0} → Result (A × List ℕ) E → List ℕ → Option (A × ℕ) → Type 0
Reads field bytes None = IsErr field
Reads field bytes (Some taken) = (taken.1 ≤ length bytes) × (field ≡ Ok (taken.0, drop taken.1 bytes))

-- The same, where the call answers the offset after the field.
abbrev pub ReadsAt : {A E : Type 0} → Result (A × List ℕ) E → List ℕ → Option (A × ℕ) → Type 0
ReadsAt field whole None = IsErr field
ReadsAt field whole (Some taken) = (taken.1 ≤ length whole) × (field ≡ Ok (taken.0, drop taken.1 whole))

-- The answer is the wanted one, or out of memory, which may come at any place.
abbrev pub AnswersWanted : {A : Type 0} → Result A RequestFault → Result A RequestFault → Type 0
AnswersWanted wanted (Ok value) = wanted ≡ Ok value
AnswersWanted wanted (Err e) = e ≢ fault.OutOfMemory → wanted ≡ Err e

-- The same of a field at the front of some bytes, with the number of its bytes.
abbrev pub ReadsWanted : {A : Type 0} → Result (A × List ℕ) RequestFault → List ℕ → Result (A × ℕ) RequestFault → Type 0
ReadsWanted field bytes (Ok taken) = (taken.1 ≤ length bytes) × (field ≡ Ok (taken.0, drop taken.1 bytes))
ReadsWanted field bytes (Err e) = e ≢ fault.OutOfMemory → field ≡ Err e
