-- What stands at the front of some bytes: a value and the bytes after it, or why there is none (this project's profile
-- says what is refused).
use Rattle.std.specs.Prelude.{ℕ, zero, suc, ◌+◌, ◌-◌, ◌*◌, ◌%◌, ◌^◌, List, [], ◌∷◌, length, take, drop, Result, Ok, Err, nat_lt, nat_le, ◌==◌, if◌then◌else◌}
use Rattle.std.specs.Int.{Width, w16, w32, byte_len}
use Rattle.byteorder.specs.Endian.{little_number}
use Rattle.pt_num.specs.declared.limits.TheConstants.{GROUP}
use Rattle.pt_num.specs.Steps.{◌>>=◌, check}
use Rattle.pt_num.specs.Numbers.{bit_len, most_groups}

-- Why there is no value: the bytes end too early, the varuint that begins these bytes is too wide for its type, or the
-- last unit of a counted text is not zero.
pub data Fault : Type 0 where
  Short : Fault
  TooWide : (from : List ℕ) → Fault
  NoZero : Fault

-- A value and the bytes after it.
abbrev pub Field : Type 0 → Type 0
Field A = Result (A × List ℕ) Fault

-- So many bytes.
abbrev pub bytes_at : ℕ → List ℕ → Field (List ℕ)
bytes_at n bytes = if nat_lt (length bytes) n then Err Short else Ok (take n bytes, drop n bytes)

-- A number of fixed width, its low byte first.
abbrev pub fixed_at : Width → List ℕ → Field ℕ
fixed_at w bytes =
    if nat_lt (length bytes) (byte_len w)
    then Err Short
    else Ok (little_number (byte_len w) bytes, drop (byte_len w) bytes)

-- The greatest value of a varuint's last possible byte: 15 for 32 bits, and 1 for 64.
abbrev pub last_group : Width → ℕ
last_group w = 2 ^ (bit_len w - 7 * (most_groups w - 1)) - 1

-- Seven bits, and above them what a field of more groups has.
abbrev pub with_group : ℕ → Field ℕ → Field ℕ
with_group b (Ok high) = Ok (b % GROUP + GROUP * high.0, high.1)
with_group b (Err fault) = Err fault

-- At most one group more than so many; in the last place at most this value. Otherwise the varuint from these bytes on
-- is too wide.
unfoldable pub groups_at : List ℕ → ℕ → ℕ → List ℕ → Field ℕ
groups_at from more last [] = Err Short
groups_at from zero last (b ∷ bytes) = if nat_le b last then Ok (b, bytes) else Err (TooWide from)
groups_at from (suc more) last (b ∷ bytes) =
    if nat_lt b GROUP then Ok (b, bytes) else with_group b (groups_at from more last bytes)

-- A varuint, in any form whose value fits.
abbrev pub var_at : Width → List ℕ → Field ℕ
var_at w bytes = groups_at bytes (most_groups w - 1) (last_group w) bytes

-- A unit before the others.
abbrev pub with_unit : ℕ → Field (List ℕ) → Field (List ℕ)
with_unit unit (Ok later) = Ok (unit ∷ later.0, later.1)
with_unit unit (Err fault) = Err fault

-- Units up to a zero unit.
unfoldable pub text_z_at : List ℕ → Field (List ℕ)
text_z_at [] = Err Short
text_z_at (low ∷ []) = Err Short
text_z_at (low ∷ high ∷ bytes) =
    if low + 256 * high == 0 then Ok ([], bytes) else with_unit (low + 256 * high) (text_z_at bytes)

-- So many units.
unfoldable pub units_at : ℕ → List ℕ → Field (List ℕ)
units_at zero bytes = Ok ([], bytes)
units_at (suc more) bytes = fixed_at w16 bytes >>= λ unit. with_unit unit.0 (units_at more unit.1)

-- The units that are counted, of which the last is zero. The count 0 has none.
abbrev pub counted_units_at : ℕ → List ℕ → Field (List ℕ)
counted_units_at zero bytes = Ok ([], bytes)
counted_units_at (suc count) bytes = do
  units ← units_at count bytes
  end ← fixed_at w16 units.1
  ended ← check (end.0 == 0) NoZero
  Ok (units.0, end.1)

-- A text with its count.
abbrev pub text_c_at : List ℕ → Field (List ℕ)
text_c_at bytes = fixed_at w32 bytes >>= λ count. counted_units_at count.0 count.1
