-- The text of a line in the form of a report, and of values in either form (this project's profile).
use Rattle.std.specs.Prelude.{◌≡◌, ℕ, ◌-◌, ◌/◌, ◌%◌, ◌^◌, Bool, true, false, ◌&&◌, not, ◌==◌, nat_lt, if◌then◌else◌, List, [], ◌∷◌, ◌++◌, length, replicate, slice_index, codes, Some, Result, Ok, Err, from_bits}
use Rattle.std.specs.List.{concat, flat_map}
use Rattle.std.specs.Int.{is_in_range}
use Rattle.std.specs.Fmt.{decimal, signed_decimal}
use Rattle.std.specs.Float.{binary32, binary64}
use Rattle.std.specs.Float.Ieee.{Format}
use Rattle.ryu.specs.Parse.{parse_float}
use Rattle.hex.specs.Hex.{encode_lower}
use Rattle.uuid.specs.Parts.{swap_fields}
use Rattle.uuid.specs.Text.{hyphenated_text, lower}
use Rattle.pt_print.specs.Printed.{hex_digit, number_part, units_part}
use Rattle.ep_defs.specs.declared.event.FieldDef.{FieldDef}
use Rattle.ep_defs.specs.Entry.{EventEntry}
use Rattle.ep_defs.specs.Event.{deepest_after}
use Rattle.nt_fields.specs.declared.value.Value.TheVariants as value
use Rattle.nt_fields.specs.Values.{FieldValue, Misfit}

-- ---- names and texts

-- A unit of UTF-16 as `\u` and four hexadecimal digits.
unfoldable pub escape : ℕ → List ℕ
escape unit = codes "\\u" ++ hex_digit (unit / 16 ^ 3) ∷ hex_digit (unit / 16 ^ 2 % 16) ∷ hex_digit (unit / 16 % 16) ∷ hex_digit (unit % 16) ∷ []

-- In a field's name every visible ASCII character but `\` and `=` stands as it is.
abbrev pub is_name_unit : ℕ → Bool
is_name_unit unit = is_in_range 33 126 unit && not (unit == 92) && not (unit == 61)

-- A unit of a field's name.
abbrev pub name_unit : ℕ → List ℕ
name_unit unit = if is_name_unit unit then unit ∷ [] else escape unit

-- Between quotes every printable ASCII character but `"`, `\` and `<` stands as it is: without `<` no text ends a script or begins
-- a tag where it stands in a page of HTML.
abbrev pub is_text_unit : ℕ → Bool
is_text_unit unit = is_in_range 32 126 unit && not (unit == 92) && not (unit == 34) && not (unit == 60)

-- A unit between quotes.
abbrev pub text_unit : ℕ → List ℕ
text_unit unit = if is_text_unit unit then unit ∷ [] else escape unit

-- A text between quotes.
abbrev pub quoted : List ℕ → List ℕ
quoted units = codes "\"" ++ flat_map text_unit units ++ codes "\""

-- ---- values

-- A Boolean.
abbrev pub truth_text : Bool → List ℕ
truth_text true = codes "true"
truth_text false = codes "false"

-- A number in at least so many digits.
abbrev pub digits_in : ℕ → ℕ → List ℕ
digits_in places number = replicate (places - length (decimal number)) 48 ++ decimal number

-- Year, month and day.
abbrev pub day_text : List ℕ → List ℕ
day_text numbers = concat (digits_in 4 (slice_index numbers 0) ∷ codes "-" ∷ digits_in 2 (slice_index numbers 1) ∷ codes "-" ∷ digits_in 2 (slice_index numbers 3) ∷ [])

-- Hour, minute and second.
abbrev pub clock_text : List ℕ → List ℕ
clock_text numbers = concat (digits_in 2 (slice_index numbers 4) ∷ codes ":" ∷ digits_in 2 (slice_index numbers 5) ∷ codes ":" ∷ digits_in 2 (slice_index numbers 6) ∷ [])

-- Day, clock and millisecond. The day of the week, which follows from them, is left out.
abbrev pub date_text : List ℕ → List ℕ
date_text numbers = concat (day_text numbers ∷ codes "T" ∷ clock_text numbers ∷ codes "." ∷ digits_in 3 (slice_index numbers 7) ∷ [])

-- The text reads back as the float with these bits, or says that they are those of no number.
abbrev pub IsFloatText : Bool → Format → ℕ → List ℕ → Type 0
IsFloatText true format bits text = text ≡ codes "NaN"
IsFloatText false format bits text = parse_float format text ≡ Some (from_bits format bits)

-- The text is that of a float. Below the sign stand exponent and fraction, which for no number are above those of the
-- infinite (IEEE 754).
abbrev pub IsFloat : Format → ℕ → ℕ → ℕ → List ℕ → Type 0
IsFloat format sign infinite bits text = IsFloatText (nat_lt infinite (bits % sign)) format bits text

-- The text is that of the value.
abbrev pub IsShown : FieldValue → List ℕ → Type 0
IsShown value.Object text = text ≡ codes "{"
IsShown (value.Boolean truth) text = text ≡ truth_text truth
IsShown (value.Char unit) text = text ≡ quoted (unit ∷ [])
IsShown (value.Signed number) text = text ≡ signed_decimal number
IsShown (value.Unsigned number) text = text ≡ decimal number
IsShown (value.Single bits) text = IsFloat binary32 (2 ^ 31) 0x7f800000 bits text
IsShown (value.Double bits) text = IsFloat binary64 (2 ^ 63) 0x7ff0000000000000 bits text
IsShown (value.Decimal long) text = text ≡ encode_lower long
IsShown (value.Date numbers) text = text ≡ date_text numbers
IsShown (value.Guid long) text = text ≡ hyphenated_text lower (swap_fields long)
IsShown (value.Text units) text = text ≡ quoted units

-- ---- fields

-- The ends of so many objects.
abbrev pub closes : ℕ → List ℕ
closes count = concat (replicate count (codes " }"))

-- The name of a field, after the ends of the objects that it does not stand in, where so many are opened.
abbrev pub field_name : ℕ → FieldDef → List ℕ
field_name opened field = concat (closes (opened - field.depth) ∷ codes " " ∷ flat_map name_unit field.name ∷ codes "=" ∷ [])

-- The text is that of the fields with these values, where so many objects are open: each a name and a value, those inside
-- an object between ` {` and ` }`.
abbrev pub AreFields : ℕ → List FieldDef → List FieldValue → List ℕ → Type 0
AreFields opened [] [] text = text ≡ closes opened
AreFields opened (field ∷ fields) (value ∷ values) text =
    (shown rest : List ℕ) × IsShown value shown × AreFields (deepest_after field) fields values rest × (text ≡ field_name opened field ++ shown ++ rest)
AreFields opened [] (value ∷ values) text = ⊥
AreFields opened (field ∷ fields) [] text = ⊥

-- The text is that of the values of a payload, or, where it does not fit the fields, all of it in hexadecimal.
abbrev pub IsPayload : List FieldDef → List ℕ → Result (List FieldValue) Misfit → List ℕ → Type 0
IsPayload fields payload (Ok values) text = AreFields 0 fields values text
IsPayload fields payload (Err misfit) text = text ≡ codes " payload=" ++ encode_lower payload

-- ---- lines

-- The line of numbers that a thread leaves out.
abbrev pub lost_line : ℕ → ℕ → List ℕ
lost_line thread count = concat (codes "lost" ∷ number_part thread ∷ number_part count ∷ (10 ∷ []) ∷ [])

-- The line of a point: its stamp, and how many threads it names.
abbrev pub point_text : ℕ → ℕ → List ℕ
point_text stamp threads = concat (codes "point" ∷ number_part stamp ∷ number_part threads ∷ (10 ∷ []) ∷ [])

-- The line of an event up to its fields: its stamp, thread and number, and its names.
abbrev pub event_start : EventEntry → List ℕ
event_start event =
    concat
    (codes "event"
    ∷ number_part event.stamp
    ∷ number_part event.thread
    ∷ number_part event.number
    ∷ units_part event.def.provider
    ∷ units_part event.def.name
    ∷ [])
