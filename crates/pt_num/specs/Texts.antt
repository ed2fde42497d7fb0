-- Texts in UTF-16 as bytes.
use Rattle.std.specs.Prelude.{◌≡◌, ℕ, ◌+◌, ◌^◌, ◌<◌, Bool, ◌⊎◌, List, [], ◌++◌, length, IsTrue}
use Rattle.std.specs.List.{flat_map, list_all}
use Rattle.std.specs.Int.{w16, w32, is_in_range}
use Rattle.pt_num.specs.Numbers.{fixed}

-- The units of a text, two bytes each, the low byte first.
abbrev pub units_bytes : List ℕ → List ℕ
units_bytes units = flat_map (fixed w16) units

-- A text that a zero unit ends, as in metadata (the NetTrace format document of PerfView (version 4), metadata
-- payloads).
abbrev pub text_z : List ℕ → List ℕ
text_z units = units_bytes units ++ fixed w16 0

-- No unit is zero, which would end the text early, and each is one of 16 bits.
abbrev pub are_units : List ℕ → Bool
are_units units = list_all (λ unit. is_in_range 1 65535 unit) units

-- The bytes are this text with its final zero unit (the NetTrace format document of PerfView (version 4), metadata
-- payloads).
pub record IsTextZ (units bytes : List ℕ) : Type 0 where
  pub spelled : bytes ≡ text_z units
  pub no_zero : IsTrue (are_units units)

-- Each unit is one of 16 bits.
abbrev pub are_wide : List ℕ → Bool
are_wide units = list_all (λ unit. is_in_range 0 65535 unit) units

-- A text with its count, which counts the final zero unit (the DOTNET_IPC_V1 protocol document of dotnet/diagnostics,
-- "string").
abbrev pub text_c : List ℕ → List ℕ
text_c units = fixed w32 (length units + 1) ++ text_z units

-- The bytes are this counted text: the empty one has a second form, the count 0 alone (the DOTNET_IPC_V1 protocol
-- document of dotnet/diagnostics, "string").
abbrev pub IsTextC : List ℕ → List ℕ → Type 0
IsTextC units bytes =
    ((bytes ≡ fixed w32 0) × (units ≡ []))
    ⊎ ((bytes ≡ text_c units) × (length units + 1 < 2 ^ 32) × IsTrue (are_wide units))
