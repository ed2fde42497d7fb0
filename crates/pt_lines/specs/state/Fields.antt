-- What putting the values of a payload answers.
use Rattle.std.specs.Prelude.{◌≡◌, ℕ, ◌≤◌, Bool, true, false, List, ◌∷◌, ◌++◌, length, drop, Option, Some, None, Result, Ok, Err}
use Rattle.ep_defs.specs.declared.event.FieldDef.{FieldDef}
use Rattle.pt_num.specs.Begins.{Keeps}
use Rattle.nt_fields.specs.declared.kind.FieldKind.{FieldKind}
use Rattle.nt_fields.specs.Kinds.{kind_of}
use Rattle.nt_fields.specs.Values.{DoesNotFit, FieldValue, Misfit, value_at, values_at}
use Rattle.pt_lines.specs.Texts.{AreFields, IsShown, field_name}
use Rattle.pt_lines.specs.Appends.{Appends}

-- The answer is whether there are values. Where there are, they were put; where there are none, what stood before stands.
abbrev pub PutsValues : List FieldDef → Result (List FieldValue) Misfit → Bool → List ℕ → List ℕ → Type 0
PutsValues fields (Ok values) true old new = Appends (AreFields 0 fields values) old new
PutsValues fields (Err misfit) false old new = Keeps old new
PutsValues fields (Ok values) false old new = ⊥
PutsValues fields (Err misfit) true old new = ⊥

-- The bytes begin with a value of the field, of so many bytes.
pub record HasValue (field : FieldDef) (bytes : List ℕ) (value : FieldValue) (used : ℕ) : Type 0 where
  pub kind : FieldKind
  pub known : kind_of field.code ≡ Some kind
  pub within : used ≤ length bytes
  pub read : value_at kind bytes ≡ Ok (value, drop used bytes)

-- They begin with none, whatever fields stand behind it.
abbrev pub HasNone : FieldDef → List ℕ → Type 0
HasNone field bytes = (others : List FieldDef) → values_at (field ∷ others) bytes ≡ Err DoesNotFit

-- The answer is how many bytes the value has. Where there is one, the field was put with it; where there is none, nothing was.
abbrev pub PutsField : ℕ → FieldDef → List ℕ → Option ℕ → List ℕ → List ℕ → Type 0
PutsField opened field bytes (Some used) old new =
    (value : FieldValue) × HasValue field bytes value used × Appends (IsShown value) (old ++ field_name opened field) new
PutsField opened field bytes None old new = HasNone field bytes × (new ≡ old)
