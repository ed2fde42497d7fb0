-- Numbers as bytes (the NetTrace format document of PerfView (version 4)).
use Rattle.std.specs.Prelude.{◌≡◌, ℕ, zero, suc, ◌+◌, ◌*◌, ◌/◌, ◌%◌, ◌^◌, ◌<◌, ◌≤◌, Bool, false, ◌&&◌, ◌⊎◌, List, [], ◌∷◌, length, nat_lt, if◌then◌else◌, IsTrue}
use Rattle.std.specs.Int.{Width, byte_len, to_le_bytes, is_in_range}
use Rattle.pt_num.specs.declared.limits.TheConstants.{GROUP}

-- A number of fixed width, its low byte first (the NetTrace format document of PerfView (version 4): "all numbers are
-- little-endian").
unfoldable pub fixed : Width → ℕ → List ℕ
fixed w n = to_le_bytes w n

-- Every byte but the last has its high bit, which says that more follow (the NetTrace format document of PerfView
-- (version 4), "varuint32" and "varuint64").
abbrev pub are_groups : List ℕ → Bool
are_groups [] = false
are_groups (b ∷ []) = nat_lt b GROUP
are_groups (b ∷ c ∷ bytes) = is_in_range GROUP 255 b && are_groups (c ∷ bytes)

-- Seven bits of each byte, the low ones first.
abbrev pub groups_value : List ℕ → ℕ
groups_value [] = 0
groups_value (b ∷ bytes) = b % GROUP + GROUP * groups_value bytes

-- How many bits a number of this width has.
abbrev pub bit_len : Width → ℕ
bit_len w = 8 * byte_len w

-- The most bytes of a varuint: 5 for 32 bits, and 10 for 64 (the NetTrace format document of PerfView (version 4)).
abbrev pub most_groups : Width → ℕ
most_groups w = (bit_len w + 6) / 7

-- The bytes are a varuint of this value (the NetTrace format document of PerfView (version 4); that every form that
-- fits is read is this project's profile).
pub record IsVar (w : Width) (value : ℕ) (bytes : List ℕ) : Type 0 where
  pub groups : IsTrue (are_groups bytes)
  pub few : length bytes ≤ most_groups w
  pub sum : value ≡ groups_value bytes
  pub fits : value < 2 ^ bit_len w

-- The last byte, or 0 where there is none.
abbrev pub last_byte : List ℕ → ℕ
last_byte [] = 0
last_byte (b ∷ []) = b
last_byte (b ∷ c ∷ bytes) = last_byte (c ∷ bytes)

-- The short form: the last byte is not 0, or it is the single byte 0 (that it is the one that is written is this
-- project's profile).
pub record IsShortVar (w : Width) (value : ℕ) (bytes : List ℕ) : Type 0 where
  pub var : IsVar w value bytes
  pub short : (bytes ≡ 0 ∷ []) ⊎ (0 < last_byte bytes)

-- At most so many groups, and none after the one that leaves nothing.
unfoldable pub short_groups : ℕ → ℕ → List ℕ
short_groups zero value = []
short_groups (suc more) value =
    if nat_lt value GROUP then value ∷ [] else (GROUP + value % GROUP) ∷ short_groups more (value / GROUP)

-- The short form of a number that fits, of which there is one.
abbrev pub short_var : Width → ℕ → List ℕ
short_var w value = short_groups (most_groups w) value
