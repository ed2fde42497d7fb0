-- Numbers that stand at the front of some bytes as values of fields.
use Rattle.std.specs.Prelude.{◌≡◌, ℕ, ◌*◌, ◌^◌, ◌<◌, ◌≤◌, List, length, drop, Ok}
use Rattle.std.specs.Fmt.{decimal}
use Rattle.pt_num.specs.Fields.{fixed_at}
use Rattle.pt_num.specs.Numbers.{bit_len}
use Rattle.nt_fields.specs.declared.kind.FieldKind.{FieldKind}
use Rattle.nt_fields.specs.declared.kind.Size.{Size}
use Rattle.nt_fields.specs.Values.{FieldValue, value_at, width_of}
use Rattle.pt_lines.specs.declared.limits.TheConstants.{MOST_EXACT}
use Rattle.pt_lines.specs.declared.number.HeldNumber.{HeldNumber}
use Rattle.pt_lines.specs.Texts.{IsShown}
use Rattle.pt_lines.specs.Json.{IsValue}
use Rattle.ep_defs.specs.declared.event.FieldDef.{FieldDef}
use Rattle.pt_lines.specs.state.Fields.{HasValue}

-- It has so many bytes, is the same with a sign and without one, and may stand in JSON as a number.
abbrev pub IsNatural : Size → List ℕ → HeldNumber → Type 0
IsNatural size bytes held =
    (held.used ≤ length bytes)
    × (2 * held.number < 2 ^ bit_len (width_of size))
    × (held.number ≤ MOST_EXACT)
    × (fixed_at (width_of size) bytes ≡ Ok (held.number, drop held.used bytes))

-- It is the value of a field of this kind, and is written by its digits alone.
abbrev pub IsHeld : FieldKind → List ℕ → HeldNumber → Type 0
IsHeld kind bytes held =
    (value : FieldValue)
    × (held.used ≤ length bytes)
    × (value_at kind bytes ≡ Ok (value, drop held.used bytes))
    × IsShown value (decimal held.number)
    × IsValue value (decimal held.number)

-- The bytes begin with a value of the field that is such a number.
abbrev pub HoldsNumber : FieldDef → List ℕ → HeldNumber → Type 0
HoldsNumber field bytes held =
    (value : FieldValue) × HasValue field bytes value held.used × IsShown value (decimal held.number) × IsValue value (decimal held.number)
