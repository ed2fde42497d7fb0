-- What taking a value answers.
use Rattle.std.specs.Prelude.{◌≡◌, ℕ, ℤ, ◌*◌, ◌≤◌, List, length, take, drop, Option, Some, None, Ok, Err}
use Rattle.std.specs.Int.{Width, byte_len, cast_signed}
use Rattle.ep_defs.specs.Text.{units_in}
use Rattle.pt_num.specs.Fields.{Short, fixed_at}
use Rattle.nt_fields.specs.declared.value.Value.{Value}
use Rattle.nt_fields.specs.declared.value.Value.TheVariants as value
use Rattle.nt_fields.specs.declared.take.Taken.{Taken}
use Rattle.nt_fields.specs.Values.{FieldValue, Part, DoesNotFit}

-- The value whose bytes begin these, where the units of a text are told by their number.
abbrev pub value_in : List ℕ → Value ℕ → FieldValue
value_in bytes value.Object = value.Object
value_in bytes (value.Boolean truth) = value.Boolean truth
value_in bytes (value.Char unit) = value.Char unit
value_in bytes (value.Signed number) = value.Signed number
value_in bytes (value.Unsigned number) = value.Unsigned number
value_in bytes (value.Single bits) = value.Single bits
value_in bytes (value.Double bits) = value.Double bits
value_in bytes (value.Decimal long) = value.Decimal long
value_in bytes (value.Date numbers) = value.Date numbers
value_in bytes (value.Guid long) = value.Guid long
value_in bytes (value.Text count) = value.Text (units_in (take (2 * count) bytes))

-- The units of a text stand at the front of the bytes.
abbrev pub StandsIn : List ℕ → Value ℕ → Type 0
StandsIn bytes (value.Text count) = 2 * count ≤ length bytes
StandsIn bytes value = Unit {0}

-- The answer is the value at the front of the bytes, and how many bytes it has, or that there is none.
abbrev pub TakesValue : Part FieldValue → List ℕ → Option Taken → Type 0
TakesValue part bytes None = part ≡ Err DoesNotFit
TakesValue part bytes (Some taken) =
    (taken.used ≤ length bytes) × StandsIn bytes taken.value × (part ≡ Ok (value_in bytes taken.value, drop taken.used bytes))

-- The answer is the number of this width in two's complement at the front of the bytes, or that they are too few.
abbrev pub TakesSigned : Width → List ℕ → Option ℤ → Type 0
TakesSigned w bytes None = fixed_at w bytes ≡ Err Short
TakesSigned w bytes (Some number) =
    (n : ℕ) × (fixed_at w bytes ≡ Ok (n, drop (byte_len w) bytes)) × (number ≡ cast_signed w n)
