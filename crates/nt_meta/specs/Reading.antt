-- What stands in the payload of a metadata blob, or that nothing may stand there (the NetTrace format document of
-- PerfView (version 4), "MetadataBlock"; what is refused is this project's profile).
use Rattle.std.specs.Prelude.{ℕ, zero, suc, ◌+◌, Bool, true, false, ◌&&◌, List, [], ◌∷◌, ◌++◌, length, Result, Ok, Err, nat_le, ◌==◌}
use Rattle.std.specs.Int.{Width, w32, w64, is_in_range}
use Rattle.pt_num.specs.Steps.{◌>>=◌, check, or_else_fault}
use Rattle.pt_num.specs.Fields.{fixed_at, text_z_at}
use Rattle.ep_defs.specs.declared.event.TheConstants.{OBJECT_CODE}
use Rattle.ep_defs.specs.declared.event.FieldDef.{FieldDef}
use Rattle.ep_defs.specs.declared.event.EventDef.{EventDef}
use Rattle.ep_defs.specs.Event.{is_type_code}
use Rattle.nt_meta.specs.declared.limits.TheConstants.{LAST_ID, READ_DEPTH}

-- Why bytes are no payload: they end too early, or hold a number that may not stand where it does.
pub data Refused : Type 0 where
  Cut : Refused
  Wrong : Refused

-- A part of a payload, and the bytes after it.
abbrev pub Part : Type 0 → Type 0
Part A = Result (A × List ℕ) Refused

-- A number of fixed width.
unfoldable pub number_at : Width → List ℕ → Part ℕ
number_at w bytes = or_else_fault (fixed_at w bytes) Cut

-- Units up to a zero unit.
unfoldable pub text_at : List ℕ → Part (List ℕ)
text_at bytes = or_else_fault (text_z_at bytes) Cut

-- The fields inside an object; other fields have none.
abbrev pub if_object : Bool → (List ℕ → Part (List FieldDef)) → List ℕ → Part (List FieldDef)
if_object true fields bytes = fields bytes
if_object false fields bytes = Ok ([], bytes)

-- A field of this depth, and after it those inside it: its type code, for an object their number and themselves, and
-- its name. Reads this many fields of a depth, as the next definition does.
abbrev pub field_at : (ℕ → ℕ → List ℕ → Part (List FieldDef)) → ℕ → List ℕ → Part (List FieldDef)
field_at fields depth bytes = do
  code ← number_at w32 bytes
  known ← check (is_type_code code.0 && nat_le depth READ_DEPTH) Wrong
  inside ← if_object (code.0 == OBJECT_CODE) (λ rest. number_at w32 rest >>= λ count. fields (depth + 1) count.0 count.1) code.1
  name ← text_at inside.1
  Ok (record { depth = depth; code = code.0; name = name.0 } ∷ inside.0, name.1)

-- A field and those after it.
abbrev pub with_fields : List FieldDef → Part (List FieldDef) → Part (List FieldDef)
with_fields first (Ok others) = Ok (first ++ others.0, others.1)
with_fields first (Err fault) = Err fault

-- This many fields of this depth, each with those inside it. The first number bounds how many there can be.
unfoldable pub fields_at : ℕ → ℕ → ℕ → List ℕ → Part (List FieldDef)
fields_at more depth zero bytes = Ok ([], bytes)
fields_at zero depth (suc count) bytes = Err Cut
fields_at (suc more) depth (suc count) bytes =
    field_at (fields_at more) depth bytes >>= λ first. with_fields first.0 (fields_at more depth count first.1)

-- A definition, after its id.
unfoldable pub def_at : List ℕ → Part EventDef
def_at bytes = do
  provider ← text_at bytes
  id ← number_at w32 provider.1
  name ← text_at id.1
  keywords ← number_at w64 name.1
  version ← number_at w32 keywords.1
  level ← number_at w32 version.1
  count ← number_at w32 level.1
  fields ← fields_at (length count.1) 0 count.0 count.1
  Ok (
    record {
      provider = provider.0;
      id = id.0;
      version = version.0;
      level = level.0;
      keywords = keywords.0;
      name = name.0;
      fields = fields.0;
    },
    fields.1,
  )

-- A definition under its id. What follows the fields is passed over.
unfoldable pub meta_at : List ℕ → Result (ℕ × EventDef) Refused
meta_at bytes = do
  id ← number_at w32 bytes
  fits ← check (is_in_range 1 LAST_ID id.0) Wrong
  def ← def_at id.1
  Ok (id.0, def.0)
