-- The JSON text of a line (RFC 8259; one object a line, as JSON Lines has them; this project's profile).
use Rattle.std.specs.Prelude.{◌≡◌, ℕ, ℤ, ◌/◌, ◌%◌, ◌^◌, ◌<◌, Bool, true, false, ◌==◌, nat_lt, nat_le, unsigned_abs, if◌then◌else◌, List, [], ◌∷◌, ◌++◌, length, take, drop, map, reverse, codes, Option, Some, None, Result, Ok, Err, from_bits}
use Rattle.std.specs.List.{flat_map}
use Rattle.std.specs.Fmt.{decimal, signed_decimal, sign_text}
use Rattle.std.specs.Float.{binary32, binary64}
use Rattle.std.specs.Float.Ieee.{Float, Format, nan, inf, fin}
use Rattle.ryu.specs.Parse.{parse_float}
use Rattle.ryu.specs.Plain.{IsPlainNumber}
use Rattle.hex.specs.Hex.{encode_lower}
use Rattle.uuid.specs.Parts.{swap_fields}
use Rattle.uuid.specs.Text.{hyphenated_text, lower}
use Rattle.pt_print.specs.Printed.{hex_digit}
use Rattle.ep_defs.specs.declared.event.EventDef.{EventDef}
use Rattle.ep_defs.specs.declared.event.FieldDef.{FieldDef}
use Rattle.ep_defs.specs.Entry.{EventEntry, PointEntry}
use Rattle.nt_fields.specs.declared.value.Value.TheVariants as value
use Rattle.nt_fields.specs.Values.{FieldValue, Misfit}
use Rattle.pt_lines.specs.declared.limits.TheConstants.{ADDRESS_BYTES, MOST_EXACT}
use Rattle.pt_lines.specs.Texts.{date_text, quoted, truth_text}

-- ---- objects, arrays and texts

-- Texts, each behind a comma.
abbrev pub behind_commas : List (List ℕ) → List ℕ
behind_commas texts = flat_map (λ text. codes "," ++ text) texts

-- Texts with commas between them.
abbrev pub commas : List (List ℕ) → List ℕ
commas [] = []
commas (text ∷ texts) = text ++ behind_commas texts

-- An object of these members.
abbrev pub object : List (List ℕ) → List ℕ
object members = codes "{" ++ commas members ++ codes "}"

-- An array of these values.
abbrev pub array : List (List ℕ) → List ℕ
array values = codes "[" ++ commas values ++ codes "]"

-- A text in which nothing has to be escaped.
abbrev pub in_quotes : List ℕ → List ℕ
in_quotes text = codes "\"" ++ text ++ codes "\""

-- ---- numbers

-- A number is a text where it is so great that a reader which holds numbers as doubles could take it for its neighbour.
abbrev pub integer : ℕ → List ℕ
integer number = if nat_le number MOST_EXACT then decimal number else in_quotes (decimal number)

-- So is one that has a sign, on both sides.
abbrev pub signed_integer : ℤ → List ℕ
signed_integer number = if nat_le (unsigned_abs number) MOST_EXACT then signed_decimal number else in_quotes (signed_decimal number)

-- The text is that of a float: a number that reads back as the float, with digits before the point and after it and no zero
-- before them, or in quotes what is no number.
abbrev pub IsNumber : Format → Float → List ℕ → Type 0
IsNumber format nan text = text ≡ in_quotes (codes "NaN")
IsNumber format (inf negative) text = text ≡ in_quotes (sign_text negative ++ codes "inf")
IsNumber format (fin negative mantissa exponent) text = IsPlainNumber text × (parse_float format text ≡ Some (fin negative mantissa exponent))

-- The text is that of the float with these bits, or says that they are those of no number.
abbrev pub IsBitsText : Bool → Format → ℕ → List ℕ → Type 0
IsBitsText true format bits text = text ≡ in_quotes (codes "NaN")
IsBitsText false format bits text = IsNumber format (from_bits format bits) text

-- Below the sign stand exponent and fraction, which for no number are above those of the infinite (IEEE 754).
abbrev pub IsFloatNumber : Format → ℕ → ℕ → ℕ → List ℕ → Type 0
IsFloatNumber format sign infinite bits text = IsBitsText (nat_lt infinite (bits % sign)) format bits text

-- ---- values

-- Sixteen bytes as a UUID, of which the first three parts have their low byte first.
abbrev pub uuid_text : List ℕ → List ℕ
uuid_text bytes = in_quotes (hyphenated_text lower (swap_fields bytes))

-- The text is that of the value. An object has none beside that of its members.
abbrev pub IsValue : FieldValue → List ℕ → Type 0
IsValue value.Object text = ⊥
IsValue (value.Boolean truth) text = text ≡ truth_text truth
IsValue (value.Char unit) text = text ≡ quoted (unit ∷ [])
IsValue (value.Signed number) text = text ≡ signed_integer number
IsValue (value.Unsigned number) text = text ≡ integer number
IsValue (value.Single bits) text = IsFloatNumber binary32 (2 ^ 31) 0x7f800000 bits text
IsValue (value.Double bits) text = IsFloatNumber binary64 (2 ^ 63) 0x7ff0000000000000 bits text
IsValue (value.Decimal long) text = text ≡ in_quotes (encode_lower long)
IsValue (value.Date numbers) text = text ≡ in_quotes (date_text numbers)
IsValue (value.Guid long) text = text ≡ uuid_text long
IsValue (value.Text units) text = text ≡ quoted units

-- What is shown of a value: its text, and nothing for an object itself.
abbrev pub IsShownBy : FieldValue → Option (List ℕ) → Type 0
IsShownBy held None = held ≡ value.Object
IsShownBy held (Some text) = IsValue held text

-- What is shown of values, one after another.
abbrev pub AreShownBy : List FieldValue → List (Option (List ℕ)) → Type 0
AreShownBy [] [] = Unit {0}
AreShownBy (held ∷ values) (shown ∷ more) = IsShownBy held shown × AreShownBy values more
AreShownBy [] (shown ∷ more) = ⊥
AreShownBy (held ∷ values) [] = ⊥

-- ---- fields

-- A member of an object, by the name of its field.
abbrev pub named : FieldDef → List ℕ → List ℕ
named field text = quoted field.name ++ codes ":" ++ text

-- Of members with their depths, those at the front that stand deeper.
abbrev pub inside : ℕ → List (ℕ × List ℕ) → List (List ℕ)
inside depth [] = []
inside depth (member ∷ members) = if nat_lt depth member.0 then member.1 ∷ inside depth members else []

-- The others.
abbrev pub outside : ℕ → List (ℕ × List ℕ) → List (ℕ × List ℕ)
outside depth [] = []
outside depth (member ∷ members) = if nat_lt depth member.0 then outside depth members else member ∷ members

-- A field before the members of those behind it. An object holds what stands behind it deeper than itself.
abbrev pub placed : FieldDef → Option (List ℕ) → List (ℕ × List ℕ) → List (ℕ × List ℕ)
placed field None behind = (field.depth, named field (object (inside field.depth behind))) ∷ outside field.depth behind
placed field (Some text) behind = (field.depth, named field text) ∷ behind

-- The members of fields of which this is shown, each with its depth.
abbrev pub members : List FieldDef → List (Option (List ℕ)) → List (ℕ × List ℕ)
members (field ∷ fields) (shown ∷ more) = placed field shown (members fields more)
members fields more = []

-- The members of all fields.
abbrev pub members_of : List FieldDef → List (Option (List ℕ)) → List (List ℕ)
members_of fields shown = map (λ member. member.1) (members fields shown)

-- The text is those members, where the fields have these values.
abbrev pub AreMembers : List FieldDef → List FieldValue → List ℕ → Type 0
AreMembers fields values text = (shown : List (Option (List ℕ))) × AreShownBy values shown × (text ≡ commas (members_of fields shown))

-- The text is the member of a payload: the object of its fields, or, where it does not fit them, all of it in hexadecimal.
abbrev pub IsPayloadMember : List FieldDef → List ℕ → Result (List FieldValue) Misfit → List ℕ → Type 0
IsPayloadMember fields payload (Ok values) text = (inner : List ℕ) × AreMembers fields values inner × (text ≡ codes "\"fields\":{" ++ inner ++ codes "}")
IsPayloadMember fields payload (Err misfit) text = text ≡ codes "\"payload\":" ++ in_quotes (encode_lower payload)

-- ---- stacks

-- A byte as two hexadecimal digits.
abbrev pub byte_text : ℕ → List ℕ
byte_text byte = hex_digit (byte / 16) ∷ hex_digit (byte % 16) ∷ []

-- An address, whose low byte comes first, in hexadecimal.
abbrev pub address_text : List ℕ → List ℕ
address_text bytes = in_quotes (flat_map byte_text (reverse bytes))

-- How many bytes an address has: as many as the stream says, where it says some.
abbrev pub width_of : ℕ → ℕ
width_of address = if address == 0 then ADDRESS_BYTES else address

-- The texts are those of the addresses in these bytes, each of so many bytes but for the last, which may have fewer.
abbrev pub AreFrames : ℕ → List ℕ → List (List ℕ) → Type 0
AreFrames width bytes [] = bytes ≡ []
AreFrames width bytes (text ∷ texts) = (0 < length bytes) × (text ≡ address_text (take width bytes)) × AreFrames width (drop width bytes) texts

-- The text is the array of a stack's addresses.
abbrev pub IsStack : ℕ → List ℕ → List ℕ → Type 0
IsStack width bytes text = (frames : List (List ℕ)) × AreFrames width bytes frames × (text ≡ array frames)

-- ---- lines

-- An object on a line of its own.
abbrev pub line_of : List (List ℕ) → List ℕ
line_of members = object members ++ 10 ∷ []

-- Numbers that a thread leaves out.
abbrev pub lost_object : ℕ → ℕ → List ℕ
lost_object thread count = line_of (codes "\"kind\":\"lost\"" ∷ (codes "\"thread\":" ++ integer thread) ∷ (codes "\"count\":" ++ integer count) ∷ [])

-- A thread that a point names, with its number.
abbrev pub known_object : ℕ × ℕ → List ℕ
known_object known = object ((codes "\"thread\":" ++ integer known.0) ∷ (codes "\"number\":" ++ integer known.1) ∷ [])

-- A point, with its threads in their order.
abbrev pub point_object : PointEntry → List ℕ
point_object point =
    line_of (codes "\"kind\":\"point\"" ∷ (codes "\"stamp\":" ++ integer point.stamp) ∷ (codes "\"threads\":" ++ array (map known_object point.threads)) ∷ [])

-- When and where an event was written: its capture thread, whose number it has, its processor, and the thread that it names.
abbrev pub place_members : ℕ → ℕ → EventEntry → List (List ℕ)
place_members processor thread event =
    codes "\"kind\":\"event\""
    ∷ (codes "\"stamp\":" ++ integer event.stamp)
    ∷ (codes "\"thread\":" ++ integer event.thread)
    ∷ (codes "\"number\":" ++ integer event.number)
    ∷ (codes "\"processor\":" ++ integer processor)
    ∷ (codes "\"thread_id\":" ++ integer thread)
    ∷ []

-- What its definition says of it.
abbrev pub definition_members : EventDef → List (List ℕ)
definition_members def =
    (codes "\"provider\":" ++ quoted def.provider)
    ∷ (codes "\"name\":" ++ quoted def.name)
    ∷ (codes "\"id\":" ++ integer def.id)
    ∷ (codes "\"version\":" ++ integer def.version)
    ∷ (codes "\"level\":" ++ integer def.level)
    ∷ (codes "\"keywords\":" ++ integer def.keywords)
    ∷ []

-- The activity that it belongs to, and the one that it is related to.
abbrev pub activity_members : EventEntry → List (List ℕ)
activity_members event = (codes "\"activity\":" ++ uuid_text event.activity) ∷ (codes "\"related\":" ++ uuid_text event.related) ∷ []

-- An event with the texts of its stack and of its payload.
abbrev pub event_object : ℕ → ℕ → EventEntry → List ℕ → List ℕ → List ℕ
event_object processor thread event stack payload =
    line_of
    (place_members processor thread event
    ++ definition_members event.def
    ++ activity_members event
    ++ (codes "\"stack\":" ++ stack)
    ∷ payload
    ∷ [])

-- What is wrong with a stream at this offset, in words of printable ASCII without quotes and backslashes.
abbrev pub error_object : ℕ → List ℕ → List ℕ
error_object at words = line_of (codes "\"kind\":\"error\"" ∷ (codes "\"offset\":" ++ integer at) ∷ (codes "\"error\":" ++ in_quotes words) ∷ [])
