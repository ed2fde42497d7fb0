-- What each step of reading a payload answers, by the bytes before it and after it.
use Rattle.std.specs.Prelude.{◌≡◌, ℕ, suc, ◌<◌, ◌≤◌, List, ◌++◌, length, Result, Ok, Err, IsErr}
use Rattle.ep_defs.specs.declared.event.FieldDef.{FieldDef}
use Rattle.nt_meta.specs.declared.cursor.Stop.{Stop}
use Rattle.nt_meta.specs.declared.cursor.Stop.TheVariants.{BadMeta, OutOfMemory}
use Rattle.nt_meta.specs.Reading.{Part, field_at, fields_at}

-- A step answers the part, and has the bytes after it left.
abbrev pub Answers : {A : Type 0} → Part A → Result A Stop → List ℕ → Type 0
Answers part (Ok x) rest = part ≡ Ok (x, rest)
Answers part (Err BadMeta) rest = IsErr part
Answers part (Err OutOfMemory) rest = Unit {0}

-- A field and those inside it are added. There are fewer fields than bytes.
pub record AddsField (depth : ℕ) (bytes : List ℕ) (before : List FieldDef) (rest : List ℕ) (after : List FieldDef) : Type 0 where
  pub fields : List FieldDef
  pub added : after ≡ before ++ fields
  pub shorter : length rest < length bytes
  pub read : (more : ℕ) → length bytes ≤ suc more → field_at (fields_at more) depth bytes ≡ Ok (fields, rest)

-- This many fields are added.
pub record AddsFields (depth count : ℕ) (bytes : List ℕ) (before : List FieldDef) (rest : List ℕ) (after : List FieldDef) : Type 0 where
  pub fields : List FieldDef
  pub added : after ≡ before ++ fields
  pub shorter : length rest ≤ length bytes
  pub read : (more : ℕ) → length bytes ≤ more → fields_at more depth count bytes ≡ Ok (fields, rest)

-- What reading a field answers.
abbrev pub AnswersField : ℕ → List ℕ → List FieldDef → Result (Unit {0}) Stop → List ℕ → List FieldDef → Type 0
AnswersField depth bytes before (Ok x) rest after = AddsField depth bytes before rest after
AnswersField depth bytes before (Err BadMeta) rest after =
    (more : ℕ) → length bytes ≤ suc more → IsErr (field_at (fields_at more) depth bytes)
AnswersField depth bytes before (Err OutOfMemory) rest after = Unit {0}

-- What reading this many fields answers.
abbrev pub AnswersFields : ℕ → ℕ → List ℕ → List FieldDef → Result (Unit {0}) Stop → List ℕ → List FieldDef → Type 0
AnswersFields depth count bytes before (Ok x) rest after = AddsFields depth count bytes before rest after
AnswersFields depth count bytes before (Err BadMeta) rest after =
    (more : ℕ) → length bytes ≤ more → IsErr (fields_at more depth count bytes)
AnswersFields depth count bytes before (Err OutOfMemory) rest after = Unit {0}
