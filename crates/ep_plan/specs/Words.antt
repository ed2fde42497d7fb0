-- What a word of a schedule's text spells, and the text of a value.
--
-- Texts are lists of bytes. A name is a list of units of UTF-16; a word has it as the same numbers, below 127.
use Rattle.std.specs.Prelude.{ℕ, ◌-◌, ◌^◌, Bool, false, ◌&&◌, not, ◌==◌, nat_lt, nat_le, if◌then◌else◌, List, [], ◌∷◌, length, map, replicate, codes, Option, Some, None}
use Rattle.std.specs.List.{list_all, slice_split, join_with_byte}
use Rattle.std.specs.Int.{is_in_range}
use Rattle.std.specs.Char.{is_ascii_graphic, is_digit}
use Rattle.std.specs.Str.Parse.{digits_value}
use Rattle.std.specs.Fmt.{decimal, digits}
use Rattle.std.specs.Result.{result_ok}
use Rattle.hex.specs.Hex.{decode_of, decode_sized, encode_lower}
use Rattle.ep_defs.specs.declared.event.TheConstants.{FIRST_CODE, LAST_CODE}
use Rattle.ep_defs.specs.declared.event.FieldDef.{FieldDef}
use Rattle.ep_defs.specs.declared.session.Rule.{Rule}
use Rattle.ep_defs.specs.Event.{is_same_text}
use Rattle.ep_plan.specs.declared.limits.TheConstants.{DECIMAL_DIGITS, HEX_DIGITS}

-- ASCII.
abbrev pub space : ℕ
space = 32

-- `#`.
abbrev pub hash : ℕ
hash = 35

-- `,`.
abbrev pub comma : ℕ
comma = 44

-- `:`.
abbrev pub colon : ℕ
colon = 58

-- The parts of a text between the bytes of this value: one more than it has such bytes, and some may be empty.
abbrev pub parts_at : ℕ → List ℕ → List (List ℕ)
parts_at separator text = slice_split (λ byte. byte == separator) text

-- The parts after such a byte, where there is one.
abbrev pub parts_behind : ℕ → Option (List ℕ) → List (List ℕ)
parts_behind separator None = []
parts_behind separator (Some rest) = parts_at separator rest

-- The words of a line stand between its single spaces.
abbrev pub words_of : List ℕ → List (List ℕ)
words_of line = parts_at space line

-- ---- numbers

-- The number that 1 to `places` digits spell. The digits above 9 are letters of either case.
unfoldable pub numeral_in : ℕ → ℕ → List ℕ → Option ℕ
numeral_in base places word =
    if is_in_range 1 places (length word) && list_all (λ digit. is_digit digit base) word then Some (digits_value base word)
    else None

-- `number.filter(test)`
abbrev pub option_filter : (ℕ → Bool) → Option ℕ → Option ℕ
option_filter test None = None
option_filter test (Some number) = if test number then Some number else None

-- A number that is no greater than this.
abbrev pub at_most : ℕ → Option ℕ → Option ℕ
at_most most number = option_filter (λ n. nat_le n most) number

-- A number that is no less than this.
abbrev pub at_least : ℕ → Option ℕ → Option ℕ
at_least least number = option_filter (λ n. nat_le least n) number

-- One decimal digit or more. Leading zeros are allowed, a sign is not.
unfoldable pub number_in : ℕ → List ℕ → Option ℕ
number_in most word = at_most most (numeral_in 10 DECIMAL_DIGITS word)

-- One hexadecimal digit or more.
unfoldable pub hex_in : List ℕ → Option ℕ
hex_in word = numeral_in 16 HEX_DIGITS word

-- ---- names

-- A name has ASCII characters without blanks and colons.
abbrev pub is_name_byte : ℕ → Bool
is_name_byte byte = is_ascii_graphic byte && not (byte == colon)

-- One such character or more.
abbrev pub is_name : List ℕ → Bool
is_name word = nat_lt 0 (length word) && list_all is_name_byte word

-- The name of a provider.
unfoldable pub provider_in : List ℕ → Option (List ℕ)
provider_in word = if is_name word then Some word else None

-- ---- words that may be `-`

-- The word `-` spells this, every other word what it is read as.
abbrev pub dash_or : {A : Type 0} → A → (List ℕ → Option A) → List ℕ → Option A
dash_or nothing read word = if is_same_text word (codes "-") then Some nothing else read word

-- The name of an event may be empty.
unfoldable pub event_name_in : List ℕ → Option (List ℕ)
event_name_in word = dash_or [] provider_in word

-- 16 bytes, two hexadecimal digits each.
unfoldable pub id_in : List ℕ → Option (List ℕ)
id_in word = dash_or (replicate 16 0) (λ digits. result_ok (decode_sized digits 16)) word

-- Any number of bytes, two hexadecimal digits each.
unfoldable pub payload_in : List ℕ → Option (List ℕ)
payload_in word =
    dash_or [] (λ digits. if nat_lt 0 (length digits) then result_ok (decode_of digits) else None) word

-- ---- words of several parts

-- The list of a first item and the rest, where both are there.
abbrev pub with_first : {A : Type 0} → Option A → Option (List A) → Option (List A)
with_first (Some first) (Some rest) = Some (first ∷ rest)
with_first first rest = None

-- What the parts spell, where each of them spells something.
abbrev pub all_in : {A : Type 0} → (List ℕ → Option A) → List (List ℕ) → Option (List A)
all_in read [] = Some []
all_in read (part ∷ parts) = with_first (read part) (all_in read parts)

-- Return addresses, joined by commas.
unfoldable pub frames_in : List ℕ → Option (List ℕ)
frames_in word = dash_or [] (λ frames. all_in hex_in (parts_at comma frames)) word

-- A rule of its three parts, where each of them is there.
abbrev pub rule_of : Option (List ℕ) → Option ℕ → Option ℕ → Option Rule
rule_of (Some name) (Some keywords) (Some level) = Some (record { name = name; keywords = keywords; level = level })
rule_of name keywords level = None

-- Exactly three parts: the name of a provider, hexadecimal keywords and a decimal level of 32 bits.
abbrev pub rule_of_parts : List (List ℕ) → Option Rule
rule_of_parts (name ∷ keywords ∷ level ∷ []) = rule_of (provider_in name) (hex_in keywords) (number_in (2 ^ 32 - 1) level)
rule_of_parts parts = None

-- A rule is NAME:KEYWORDS:LEVEL.
unfoldable pub rule_in : List ℕ → Option Rule
rule_in word = rule_of_parts (parts_at colon word)

-- A type code of the NetTrace format, in decimal digits. A field of a schedule's text is no object.
unfoldable pub code_in : List ℕ → Option ℕ
code_in digits = at_least FIRST_CODE (number_in LAST_CODE digits)

-- An outermost field of its two parts, where both are there.
abbrev pub field_of : Option (List ℕ) → Option ℕ → Option FieldDef
field_of (Some name) (Some code) = Some (record { depth = 0; code = code; name = name })
field_of name code = None

-- Exactly two parts. The name has no comma, since commas part the fields.
abbrev pub field_of_parts : List (List ℕ) → Option FieldDef
field_of_parts (name ∷ code ∷ []) = field_of (provider_in name) (code_in code)
field_of_parts parts = None

-- A field is name:code.
unfoldable pub field_in : List ℕ → Option FieldDef
field_in part = field_of_parts (parts_at colon part)

-- Fields, joined by commas.
unfoldable pub fields_in : List ℕ → Option (List FieldDef)
fields_in word = dash_or [] (λ fields. all_in field_in (parts_at comma fields)) word

-- ---- texts

-- Decimal digits, the first of them not 0 unless the number is 0.
unfoldable pub number_text : ℕ → List ℕ
number_text number = decimal number

-- The same in hexadecimal digits, in lower case.
unfoldable pub hex_text : ℕ → List ℕ
hex_text number = digits 16 false number

-- `-` for 16 bytes of 0, else two digits for each byte.
unfoldable pub id_text : List ℕ → List ℕ
id_text id = if list_all (λ byte. byte == 0) id then codes "-" else encode_lower id

-- `-` for no bytes, else two digits for each.
unfoldable pub payload_text : List ℕ → List ℕ
payload_text [] = codes "-"
payload_text (byte ∷ bytes) = encode_lower (byte ∷ bytes)

-- `-` for no frames, else their numbers, joined by commas.
unfoldable pub frames_text : List ℕ → List ℕ
frames_text [] = codes "-"
frames_text (frame ∷ frames) = join_with_byte comma (map hex_text (frame ∷ frames))

-- The parts of a rule, joined by colons.
unfoldable pub rule_text : Rule → List ℕ
rule_text rule = join_with_byte colon (rule.name ∷ hex_text rule.keywords ∷ number_text rule.level ∷ [])
