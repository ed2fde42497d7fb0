-- The fields of a part of a start-up text, and what they mean (after dotnet/runtime's DOTNET_EventPipeConfig; the
-- grammar is this project's profile).
use Rattle.std.specs.Prelude.{ℕ, ◌+◌, ◌-◌, ◌^◌, Bool, false, not, nat_eq, if◌then◌else◌, List, [], ◌∷◌, length, drop, get_or, find, codes, Option, Some, is_some, option_map}
use Rattle.std.specs.List.{starts_with}
use Rattle.ep_defs.specs.declared.session.Rule.{Rule}
use Rattle.ep_plan.specs.Words.{colon, parts_at, provider_in, hex_in, number_in, rule_of}
use Rattle.ep_auto.specs.declared.limits.TheConstants.{EVERY_KEYWORD, VERBOSE}
use Rattle.ep_auto.specs.declared.fault.AutoKind.{AutoKind}
use Rattle.ep_auto.specs.declared.fault.AutoKind.TheVariants as kind
use Rattle.ep_auto.specs.declared.fault.AutoFault.{AutoFault}
use Rattle.ep_auto.specs.declared.fault.AutoFault.TheVariants.{Bad}

-- The field at a place of a part, from 0. Colons part the fields, and an absent field is as an empty one.
abbrev pub field_at : ℕ → List ℕ → List ℕ
field_at place part = get_or (parts_at colon part) place []

-- ---- what a field means

-- The digits after `0x`, or all where the text begins otherwise.
abbrev pub without_0x : List ℕ → List ℕ
without_0x digits = if starts_with nat_eq digits (codes "0x") then drop 2 digits else digits

-- All keywords where none are named, else those of 1 to 16 hexadecimal digits.
abbrev pub keywords_in : List ℕ → Option ℕ
keywords_in [] = Some EVERY_KEYWORD
keywords_in (digit ∷ digits) = hex_in (without_0x (digit ∷ digits))

-- Verbose where no level is named, else a decimal number of 32 bits.
abbrev pub level_in : List ℕ → Option ℕ
level_in [] = Some VERBOSE
level_in (digit ∷ digits) = number_in (2 ^ 32 - 1) (digit ∷ digits)

-- A part is NAME, NAME:KEYWORDS or NAME:KEYWORDS:LEVEL. Text after a third colon is passed over.
abbrev pub rule_in : List ℕ → Option Rule
rule_in part = rule_of (provider_in (field_at 0 part)) (keywords_in (field_at 1 part)) (level_in (field_at 2 part))

-- ---- which field is wrong

-- A field where it stands: what it is to be, the 1-based column of its first byte, and its bytes.
pub record Field : Type 0 where
  pub kind : AutoKind
  pub column : ℕ
  pub bytes : List ℕ

-- The fields of a part whose first byte stands at this column. An absent field is never wrong, since it is empty.
abbrev pub fields_at : ℕ → List ℕ → List Field
fields_at column part =
    record { kind = kind.Name; column = column; bytes = field_at 0 part }
    ∷ record { kind = kind.Keywords; column = column + length (field_at 0 part) + 1; bytes = field_at 1 part }
    ∷ record { kind = kind.Level; column = column + length (field_at 0 part) + 1 + length (field_at 1 part) + 1; bytes = field_at 2 part }
    ∷ []

-- Bytes that mean nothing as a field of this kind.
abbrev pub means_nothing : AutoKind → List ℕ → Bool
means_nothing kind.Name bytes = not (is_some (provider_in bytes))
means_nothing kind.Keywords bytes = not (is_some (keywords_in bytes))
means_nothing kind.Level bytes = not (is_some (level_in bytes))
means_nothing kind.Count bytes = false

-- The bytes of the field mean nothing.
abbrev pub is_wrong : Field → Bool
is_wrong field = means_nothing field.kind field.bytes

-- A wrong field is told by its kind and its column.
abbrev pub told : Field → AutoFault
told field = Bad field.column field.kind

-- The first wrong one of these fields.
abbrev pub first_wrong : List Field → Option AutoFault
first_wrong fields = option_map told (find is_wrong fields)
