-- What a source gave and what a sink took of some bytes (this project's profile).
use Rattle.std.specs.Prelude.{◌≡◌, ℕ, Bool, List, [], ◌++◌, IsTrue}

-- The first bytes begin the second.
abbrev pub IsPrefix : List ℕ → List ℕ → Type 0
IsPrefix first bytes = (rest : List ℕ) × (first ++ rest ≡ bytes)

-- What was taken has grown by a prefix of the bytes.
abbrev pub TookPartOf : List ℕ → List ℕ → List ℕ → Type 0
TookPartOf bytes before now = (part : List ℕ) × IsPrefix part bytes × (now ≡ before ++ part)

-- The sink took all of these bytes, where it tells what it takes.
abbrev pub TookAll : {S : Type 0} → (S → Bool) → (S → List ℕ) → S → S → List ℕ → Type 0
TookAll tells taken old new bytes = IsTrue (tells old) → taken new ≡ taken old ++ bytes

-- The sink took a prefix of these bytes, where it tells what it takes.
abbrev pub TookPart : {S : Type 0} → (S → Bool) → (S → List ℕ) → S → S → List ℕ → Type 0
TookPart tells taken old new bytes = IsTrue (tells old) → TookPartOf bytes (taken old) (taken new)

-- The source was read to its end and gave these bytes, where it tells what it gives.
abbrev pub ReadAll : {S : Type 0} → (S → Bool) → (S → List ℕ) → (S → List ℕ) → S → S → List ℕ → Type 0
ReadAll tells given left old new bytes =
    IsTrue (tells old) → (left old ≡ bytes) × (left new ≡ []) × (given new ≡ given old ++ bytes)
