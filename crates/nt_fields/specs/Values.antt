-- Which values stand in the payload of an event, by the fields of its definition, or that it does not fit them (the
-- NetTrace format document of PerfView (version 4) on the types of fields; that a Boolean is 0 or 1, and that a payload is
-- used up, is this project's profile).
use Rattle.std.specs.Prelude.{ℕ, true, false, List, [], ◌∷◌, length, Result, Ok, Err, ◌==◌, if◌then◌else◌}
use Rattle.std.specs.Int.{Width, w8, w16, w32, w64, cast_signed}
use Rattle.ep_defs.specs.declared.event.FieldDef.{FieldDef}
use Rattle.ep_defs.specs.Text.{units_in}
use Rattle.pt_num.specs.Steps.{◌>>=◌, check, or_fault, or_else_fault}
use Rattle.pt_num.specs.Fields.{bytes_at, fixed_at, text_z_at}
use Rattle.nt_fields.specs.declared.kind.Size.{Size}
use Rattle.nt_fields.specs.declared.kind.Size.TheVariants as size
use Rattle.nt_fields.specs.declared.kind.FieldKind.{FieldKind}
use Rattle.nt_fields.specs.declared.kind.FieldKind.TheVariants as kind
use Rattle.nt_fields.specs.declared.value.Value.{Value}
use Rattle.nt_fields.specs.declared.value.Value.TheVariants as value
use Rattle.nt_fields.specs.Kinds.{kind_of}

-- The bytes are no such value.
pub data Misfit : Type 0 where
  DoesNotFit : Misfit

-- A value, of which a text is its units.
abbrev pub FieldValue : Type 0
FieldValue = Value (List ℕ)

-- A part of a payload, and the bytes after it.
abbrev pub Part : Type 0 → Type 0
Part A = Result (A × List ℕ) Misfit

-- How wide a number of this size is.
abbrev pub width_of : Size → Width
width_of size.One = w8
width_of size.Two = w16
width_of size.Four = w32
width_of size.Eight = w64

-- A Boolean is 0 or 1.
abbrev pub truth_of : ℕ → Result FieldValue Misfit
truth_of number = if number == 0 then Ok (value.Boolean false) else (if number == 1 then Ok (value.Boolean true) else Err DoesNotFit)

-- A number, its low byte first.
abbrev pub number_at : Width → List ℕ → Part ℕ
number_at w bytes = or_else_fault (fixed_at w bytes) DoesNotFit

-- Sixteen bytes.
abbrev pub long_at : List ℕ → Part (List ℕ)
long_at bytes = or_else_fault (bytes_at 16 bytes) DoesNotFit

-- Units up to a zero unit.
abbrev pub text_at : List ℕ → Part (List ℕ)
text_at bytes = or_else_fault (text_z_at bytes) DoesNotFit

-- The value of a field at the front of the bytes. An object has no bytes beside those of its fields.
abbrev pub value_at : FieldKind → List ℕ → Part FieldValue
value_at kind.Object bytes = Ok (value.Object, bytes)
value_at kind.Boolean bytes = number_at w32 bytes >>= λ n. truth_of n.0 >>= λ truth. Ok (truth, n.1)
value_at kind.Char bytes = number_at w16 bytes >>= λ n. Ok (value.Char n.0, n.1)
value_at (kind.Signed size) bytes = number_at (width_of size) bytes >>= λ n. Ok (value.Signed (cast_signed (width_of size) n.0), n.1)
value_at (kind.Unsigned size) bytes = number_at (width_of size) bytes >>= λ n. Ok (value.Unsigned n.0, n.1)
value_at kind.Single bytes = number_at w32 bytes >>= λ n. Ok (value.Single n.0, n.1)
value_at kind.Double bytes = number_at w64 bytes >>= λ n. Ok (value.Double n.0, n.1)
value_at kind.Decimal bytes = long_at bytes >>= λ long. Ok (value.Decimal long.0, long.1)
value_at kind.Date bytes = long_at bytes >>= λ long. Ok (value.Date (units_in long.0), long.1)
value_at kind.Guid bytes = long_at bytes >>= λ long. Ok (value.Guid long.0, long.1)
value_at kind.Text bytes = text_at bytes >>= λ text. Ok (value.Text text.0, text.1)

-- The values of some fields one after another, those inside an object after it.
unfoldable pub values_at : List FieldDef → List ℕ → Part (List FieldValue)
values_at [] bytes = Ok ([], bytes)
values_at (field ∷ fields) bytes = do
  kind ← or_fault (kind_of field.code) DoesNotFit
  first ← value_at kind bytes
  others ← values_at fields first.1
  Ok (first.0 ∷ others.0, others.1)

-- The values of a payload, which has no byte beside them.
abbrev pub payload_at : List FieldDef → List ℕ → Result (List FieldValue) Misfit
payload_at fields bytes = do
  values ← values_at fields bytes
  all ← check (length values.1 == 0) DoesNotFit
  Ok values.0
