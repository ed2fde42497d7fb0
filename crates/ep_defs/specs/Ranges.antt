-- What the types of the code say of each value: the numbers have 8, 16, 32 or 64 bits, and an id has 16 bytes.
-- Definitions speak of all numbers, so laws over them take these as premises.
use Rattle.std.specs.Prelude.{◌≡◌, ℕ, ◌^◌, ◌<◌, List, length, All}
use Rattle.ep_defs.specs.declared.event.FieldDef.{FieldDef}
use Rattle.ep_defs.specs.declared.event.EventDef.{EventDef}
use Rattle.ep_defs.specs.declared.session.Rule.{Rule}
use Rattle.ep_defs.specs.declared.session.Config.{Config}
use Rattle.ep_defs.specs.declared.session.Write.{Write}

-- Bytes have 8 bits.
abbrev pub AreBytes : List ℕ → Type 0
AreBytes bytes = All (λ byte. byte < 2 ^ 8) bytes

-- Units of UTF-16 have 16 bits.
abbrev pub AreUnits : List ℕ → Type 0
AreUnits units = All (λ unit. unit < 2 ^ 16) units

-- An activity's id has 16 bytes.
pub record IsId (id : List ℕ) : Type 0 where
  pub long : length id ≡ 16
  pub bytes : AreBytes id

-- The numbers of a field fit their types.
pub record FieldFits (field : FieldDef) : Type 0 where
  pub depth : field.depth < 2 ^ 32
  pub code : field.code < 2 ^ 8
  pub name : AreUnits field.name

-- Those of a definition and its fields.
pub record EventFits (def : EventDef) : Type 0 where
  pub provider : AreUnits def.provider
  pub id : def.id < 2 ^ 32
  pub version : def.version < 2 ^ 32
  pub level : def.level < 2 ^ 32
  pub keywords : def.keywords < 2 ^ 64
  pub name : AreUnits def.name
  pub fields : All FieldFits def.fields

-- Those of a rule.
pub record RuleFits (rule : Rule) : Type 0 where
  pub name : AreUnits rule.name
  pub keywords : rule.keywords < 2 ^ 64
  pub level : rule.level < 2 ^ 32

-- Those of a configuration and its rules.
pub record ConfigFits (config : Config) : Type 0 where
  pub rules : All RuleFits config.rules
  pub chunks : config.chunks < 2 ^ 32

-- Those of a write.
pub record WriteFits (write : Write) : Type 0 where
  pub event : write.event < 2 ^ 32
  pub activity : IsId write.activity
  pub related : IsId write.related
  pub frames : All (λ frame. frame < 2 ^ 64) write.frames
  pub payload : AreBytes write.payload
