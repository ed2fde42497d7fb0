-- Numbers as values of fields.
use Rattle.std.proofs.Common.{◌≡◌, ℕ, ◌*◌, ◌^◌, ◌<◌, ◌≤◌, true, List, pos, refl, sym, ap, ◌∙◌, arith, decimal}
use Rattle.std.specs.Prelude.{nat_le}
use Rattle.std.specs.Int.{cast_signed}
use Rattle.std.specs.Fmt.{signed_decimal}
use Rattle.std.proofs.lemmas.Int.{to_z_pos}
use Rattle.pt_num.specs.Numbers.{bit_len}
use Rattle.nt_fields.specs.declared.kind.FieldKind.TheVariants as kind
use Rattle.nt_fields.specs.declared.kind.Size.{Size}
use Rattle.nt_fields.specs.declared.kind.Size.TheVariants as size
use Rattle.nt_fields.specs.declared.value.Value.TheVariants as value
use Rattle.nt_fields.specs.Values.{width_of}
use Rattle.pt_lines.specs.declared.limits.TheConstants.{MOST_EXACT}
use Rattle.pt_lines.specs.declared.number.HeldNumber.{HeldNumber}
use Rattle.pt_lines.specs.Json.{integer, signed_integer}
use Rattle.pt_lines.specs.state.Held.{IsHeld, IsNatural}

exact : (number : ℕ) → number ≤ MOST_EXACT → nat_le number MOST_EXACT ≡ true
exact number le = grind arith

plain : (number : ℕ) → number ≤ MOST_EXACT → decimal number ≡ integer number
plain number le = rw (exact number le) refl

plain-signed : (number : ℕ) → number ≤ MOST_EXACT → decimal number ≡ signed_integer (pos number)
plain-signed number le = rw (exact number le) refl

-- What is small enough is the same with a sign.
same : (s : Size) (number : ℕ) → 2 * number < 2 ^ bit_len (width_of s) → cast_signed (width_of s) number ≡ pos number
same size.One number lt = let small : number < 2 ^ 7 = omega (arith, lt) in to_z_pos (width_of size.One) number small
same size.Two number lt = let small : number < 2 ^ 15 = omega (arith, lt) in to_z_pos (width_of size.Two) number small
same size.Four number lt = let small : number < 2 ^ 31 = omega (arith, lt) in to_z_pos (width_of size.Four) number small
same size.Eight number lt = let small : number < 2 ^ 63 = omega (arith, lt) in to_z_pos (width_of size.Eight) number small

pub signed-held : (s : Size) (bytes : List ℕ) (held : HeldNumber) → IsNatural s bytes held → IsHeld (kind.Signed s) bytes held
signed-held s bytes held (within, small, le, read) =
    let is = sym (same s held.number small) in (
      value.Signed (cast_signed (width_of s) held.number),
      within,
      rw read refl,
      ap signed_decimal is,
      plain-signed held.number le ∙ ap signed_integer is,
    )

pub unsigned-held : (s : Size) (bytes : List ℕ) (held : HeldNumber) → IsNatural s bytes held → IsHeld (kind.Unsigned s) bytes held
unsigned-held s bytes held (within, small, le, read) = (value.Unsigned held.number, within, rw read refl, refl, plain held.number le)
