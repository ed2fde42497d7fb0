-- The type codes of fields (the NetTrace format document of PerfView, version 4).
use Rattle.std.specs.Prelude.{ℕ, Option, Some, None, ◌==◌, if◌then◌else◌}
use Rattle.nt_fields.specs.declared.kind.Size.TheVariants as size
use Rattle.nt_fields.specs.declared.kind.FieldKind.{FieldKind}
use Rattle.nt_fields.specs.declared.kind.FieldKind.TheVariants as kind

-- What a field of this type code holds: Object, Boolean, Char, SByte, Byte, Int16, UInt16, Int32, UInt32, Int64, UInt64,
-- Single, Double, Decimal, DateTime, Guid, String.
abbrev pub kind_of : ℕ → Option FieldKind
kind_of code =
    if code == 1 then Some kind.Object
    else if code == 3 then Some kind.Boolean
    else if code == 4 then Some kind.Char
    else if code == 5 then Some (kind.Signed size.One)
    else if code == 6 then Some (kind.Unsigned size.One)
    else if code == 7 then Some (kind.Signed size.Two)
    else if code == 8 then Some (kind.Unsigned size.Two)
    else if code == 9 then Some (kind.Signed size.Four)
    else if code == 10 then Some (kind.Unsigned size.Four)
    else if code == 11 then Some (kind.Signed size.Eight)
    else if code == 12 then Some (kind.Unsigned size.Eight)
    else if code == 13 then Some kind.Single
    else if code == 14 then Some kind.Double
    else if code == 15 then Some kind.Decimal
    else if code == 16 then Some kind.Date
    else if code == 17 then Some kind.Guid
    else if code == 18 then Some kind.Text
    else None
