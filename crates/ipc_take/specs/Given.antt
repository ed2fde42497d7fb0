-- What a link gave in a call (this project's profile).
use Rattle.std.specs.Prelude.{◌≡◌, ℕ, ◌≤◌, Bool, List, [], ◌++◌, ◌⊎◌, length, IsTrue}
use Rattle.pt_io.specs.Faults.{HasRisen}
use Rattle.pt_io.specs.Taken.{IsPrefix}

-- The link gave these bytes, where it tells what it gives.
abbrev pub Gave : {L : Type 0} → (L → Bool) → (L → List ℕ) → (L → List ℕ) → L → L → List ℕ → Type 0
Gave tells given left old new bytes =
    IsTrue (tells old) → (given new ≡ given old ++ bytes) × (left old ≡ bytes ++ left new)

-- The link gave a first part of these bytes and no other, where it tells what it gives.
abbrev pub GavePart : {L : Type 0} → (L → Bool) → (L → List ℕ) → (L → List ℕ) → L → L → List ℕ → Type 0
GavePart tells given left old new bytes =
    IsTrue (tells old) → (part : List ℕ) × IsPrefix part bytes × (given new ≡ given old ++ part) × (left old ≡ part ++ left new)

-- There are this many bytes, or fewer where the link has ended.
abbrev pub IsFull : {L : Type 0} → (L → Bool) → (L → List ℕ) → L → L → List ℕ → ℕ → Type 0
IsFull tells left old new bytes count =
    (length bytes ≤ count) × (IsTrue (tells old) → (length bytes ≡ count) ⊎ (left new ≡ []))

-- A read or a write of the link has failed.
abbrev pub HasFailed : {L : Type 0} → (L → ℕ) → (L → ℕ) → L → L → Type 0
HasFailed reads writes old new = HasRisen (reads old) (reads new) ⊎ HasRisen (writes old) (writes new)

-- No read and no write of the link has failed.
abbrev pub IsSound : {L : Type 0} → (L → ℕ) → (L → ℕ) → L → L → Type 0
IsSound reads writes old new = (reads new ≡ reads old) × (writes new ≡ writes old)
