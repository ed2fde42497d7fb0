-- The payload of a metadata blob, which defines an event (the NetTrace format document of PerfView (version 4),
-- "MetadataBlock").
use Rattle.std.specs.Prelude.{◌≡◌, ℕ, zero, suc, ◌+◌, ◌^◌, ◌<◌, ◌≤◌, Bool, ◌&&◌, List, [], ◌∷◌, ◌++◌, length, drop, take_while, count_by, nat_lt, nat_le, ◌==◌, if◌then◌else◌, IsTrue}
use Rattle.std.specs.List.{list_all, AllByRecursion}
use Rattle.std.specs.Int.{w32, w64}
use Rattle.ep_defs.specs.declared.event.FieldDef.{FieldDef}
use Rattle.ep_defs.specs.declared.event.EventDef.{EventDef}
use Rattle.ep_defs.specs.Event.{is_type_code, are_nested}
use Rattle.ep_defs.specs.declared.event.TheConstants.{OBJECT_CODE}
use Rattle.ep_defs.specs.Ranges.{AreBytes}
use Rattle.nt_meta.specs.declared.limits.TheConstants.{LAST_ID, READ_DEPTH}
use Rattle.pt_num.specs.Numbers.{fixed}
use Rattle.pt_num.specs.Texts.{text_z, are_units}

-- The fields inside this one: those after it, up to the next whose depth is not greater.
abbrev pub inside : FieldDef → List FieldDef → List FieldDef
inside field fields = take_while (λ f. nat_lt field.depth f.depth) fields

-- The fields after this one and those inside it.
abbrev pub after : FieldDef → List FieldDef → List FieldDef
after field fields = drop (length (inside field fields)) fields

-- How many fields stand directly inside this one, which the payload says in 32 bits.
abbrev pub inside_count : FieldDef → List FieldDef → ℕ
inside_count field fields = count_by (λ f. f.depth == field.depth + 1) (inside field fields)

-- Each field: its type code, for an object the count and the fields inside it, and then its name.
-- The first number bounds how many fields there are.
abbrev pub fields_bytes : ℕ → List FieldDef → List ℕ
fields_bytes zero fields = []
fields_bytes (suc more) [] = []
fields_bytes (suc more) (field ∷ fields) =
    fixed w32 field.code
    ++ (if field.code == OBJECT_CODE then fixed w32 (inside_count field fields) ++ fields_bytes more (inside field fields) else [])
    ++ text_z field.name
    ++ fields_bytes more (after field fields)

-- How many fields stand in no object.
abbrev pub outermost_count : List FieldDef → ℕ
outermost_count fields = count_by (λ f. f.depth == 0) fields

-- The id, the provider's name, the event's number and name, its keywords, version and level, and the fields after their
-- number.
abbrev pub meta_payload : ℕ → EventDef → List ℕ
meta_payload id def =
    fixed w32 id
    ++ text_z def.provider
    ++ fixed w32 def.id
    ++ text_z def.name
    ++ fixed w64 def.keywords
    ++ fixed w32 def.version
    ++ fixed w32 def.level
    ++ fixed w32 (outermost_count def.fields)
    ++ fields_bytes (length def.fields) def.fields

-- How many fields stand directly inside each field, which is none but for an object.
abbrev pub inside_counts : List FieldDef → List ℕ
inside_counts [] = []
inside_counts (field ∷ fields) = inside_count field fields ∷ inside_counts fields

-- What a reader accepts of a field; it may stand inside of 32 objects (this project's profile).
abbrev pub is_readable_field : FieldDef → Bool
is_readable_field field = is_type_code field.code && are_units field.name && nat_le field.depth READ_DEPTH

-- The definition's parts fit the places that the payload has for them.
pub record FitsPayload (def : EventDef) : Type 0 where
  pub id : def.id < 2 ^ 32
  pub version : def.version < 2 ^ 32
  pub level : def.level < 2 ^ 32
  pub keywords : def.keywords < 2 ^ 64
  pub provider : IsTrue (are_units def.provider)
  pub name : IsTrue (are_units def.name)
  pub counts : AllByRecursion (λ count. count < 2 ^ 32) (outermost_count def.fields ∷ inside_counts def.fields)
  pub fields : IsTrue (list_all is_readable_field def.fields && are_nested 0 def.fields)

-- The bytes define an event under this id. Bytes after the fields are passed over (this project's profile).
pub record IsMeta (id : ℕ) (def : EventDef) (bytes : List ℕ) : Type 0 where
  pub more : List ℕ
  pub spelled : bytes ≡ meta_payload id def ++ more
  pub not_zero : 0 < id
  pub id_fits : id ≤ LAST_ID
  pub def_fits : FitsPayload def
  pub more_bytes : AreBytes more
