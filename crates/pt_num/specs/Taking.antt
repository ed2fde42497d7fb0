-- What the calls that take answer.
use Rattle.std.specs.Prelude.{◌≡◌, ℕ, ◌+◌, ◌-◌, ◌*◌, ◌<◌, ◌≤◌, List, length, take, drop, slice_index, Option, Some, None, Ok, Err, nat_le, IsTrue}
use Rattle.std.specs.List.{list_all}
use Rattle.std.specs.Int.{Width, w32, byte_len}
use Rattle.byteorder.specs.Endian.{little_number}
use Rattle.ep_defs.specs.Text.{units_in}
use Rattle.pt_num.specs.declared.limits.TheConstants.{GROUP}
use Rattle.pt_num.specs.declared.varuint.Taken.{Taken}
use Rattle.pt_num.specs.declared.varuint.Taken.TheVariants as taken
use Rattle.pt_num.specs.declared.text.TakenText.{TakenText}
use Rattle.pt_num.specs.declared.text.TakenText.TheVariants as text
use Rattle.pt_num.specs.Numbers.{most_groups}
use Rattle.pt_num.specs.Fields.{Field, Short, TooWide, NoZero, fixed_at, last_group}

-- ---- numbers

-- The number of this width at the front of the bytes, or none where they are too few.
abbrev pub TakesFixed : Width → List ℕ → Option ℕ → Type 0
TakesFixed w bytes None = fixed_at w bytes ≡ Err Short
TakesFixed w bytes (Some value) = fixed_at w bytes ≡ Ok (value, drop (byte_len w) bytes)

-- The answer is what stands at the front of the bytes.
abbrev pub Takes : Field ℕ → List ℕ → Taken ℕ → Type 0
Takes field bytes (taken.Value value used) = (used ≤ length bytes) × (field ≡ Ok (value, drop used bytes))
Takes field bytes taken.Short = field ≡ Err Short
Takes field bytes taken.TooWide = field ≡ Err (TooWide bytes)

-- What holds of a value and of the number of its bytes.
abbrev pub IfValue : Taken ℕ → (ℕ → ℕ → Type 0) → Type 0
IfValue (taken.Value value used) P = P value used
IfValue taken.Short P = Unit {0}
IfValue taken.TooWide P = Unit {0}

-- Each byte says that more follow.
abbrev pub are_high : List ℕ → Type 0
are_high bytes = IsTrue (list_all (λ b. nat_le GROUP b) bytes)

-- Fewer bytes than a varuint can have, each of which says that more follow.
abbrev pub IsCut : Width → List ℕ → Type 0
IsCut w bytes = (length bytes < most_groups w) × are_high bytes

-- The last byte that a varuint can have is reached, and is above its greatest value.
abbrev pub IsOver : Width → List ℕ → Type 0
IsOver w bytes =
    let last = most_groups w - 1 in
    are_high (take last bytes) × (last < length bytes) × (last_group w < slice_index bytes last)

-- ---- texts

-- The answer is the text at the front of the bytes, whose units begin at this place.
abbrev pub TakesText : Field (List ℕ) → ℕ → List ℕ → TakenText → Type 0
TakesText field from bytes (text.Units count used) =
    (used ≤ length bytes)
    × (from + 2 * count ≤ used)
    × (field ≡ Ok (units_in (take (2 * count) (drop from bytes)), drop used bytes))
TakesText field from bytes text.Short = field ≡ Err Short
TakesText field from bytes text.NoZero = field ≡ Err NoZero

-- What holds of the number of units of a text, without the zero unit, and of the number of its bytes.
abbrev pub IfUnits : TakenText → (ℕ → ℕ → Type 0) → Type 0
IfUnits (text.Units count used) P = P count used
IfUnits text.Short P = Unit {0}
IfUnits text.NoZero P = Unit {0}

-- The number of units that the first four bytes count, the final zero unit with them.
abbrev pub counted : List ℕ → ℕ
counted bytes = little_number (byte_len w32) bytes

-- The last of the counted units.
abbrev pub last_counted : List ℕ → ℕ
last_counted bytes = slice_index bytes (2 * counted bytes + 2) + 256 * slice_index bytes (2 * counted bytes + 3)
