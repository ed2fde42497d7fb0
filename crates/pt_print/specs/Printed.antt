-- A printed line: a word, then numbers, then texts, each behind a space, and a line feed (this project's profile).
use Rattle.std.specs.Prelude.{ℕ, ◌+◌, ◌-◌, ◌/◌, ◌%◌, ◌^◌, Bool, ◌&&◌, not, ◌==◌, nat_lt, if◌then◌else◌, List, [], ◌∷◌, ◌++◌, length, replicate, codes}
use Rattle.std.specs.List.{flat_map}
use Rattle.std.specs.Int.{is_in_range}
use Rattle.std.specs.Fmt.{decimal}
use Rattle.pt_print.specs.declared.TheConstants.{PLACES}

-- A number stands right in ten places; a longer one stands whole.
abbrev pub number_part : ℕ → List ℕ
number_part number = 32 ∷ (replicate (PLACES - length (decimal number)) 32 ++ decimal number)

-- A text stands as it is, the empty one as `-`.
abbrev pub shown_text : List ℕ → List ℕ
shown_text [] = codes "-"
shown_text (byte ∷ bytes) = byte ∷ bytes

-- A space and a text, as it is shown.
abbrev pub text_part : List ℕ → List ℕ
text_part text = 32 ∷ shown_text text

-- A digit below 16, in lower case.
abbrev pub hex_digit : ℕ → ℕ
hex_digit digit = if nat_lt digit 10 then 48 + digit else 87 + digit

-- A unit of UTF-16 is shown as it is where it is a visible ASCII character other than `\`.
abbrev pub is_shown : ℕ → Bool
is_shown unit = is_in_range 33 126 unit && not (unit == 92)

-- Every other unit is shown as `\u` and four hexadecimal digits.
unfoldable pub unit_text : ℕ → List ℕ
unit_text unit =
    if is_shown unit then unit ∷ []
    else codes "\\u" ++ hex_digit (unit / 16 ^ 3) ∷ hex_digit (unit / 16 ^ 2 % 16) ∷ hex_digit (unit / 16 % 16) ∷ hex_digit (unit % 16) ∷ []

-- A text of UTF-16, the empty one as `-`.
abbrev pub shown_units : List ℕ → List ℕ
shown_units [] = codes "-"
shown_units (unit ∷ units) = flat_map unit_text (unit ∷ units)

-- A space and a text of UTF-16 units, as it is shown.
abbrev pub units_part : List ℕ → List ℕ
units_part units = 32 ∷ shown_units units
