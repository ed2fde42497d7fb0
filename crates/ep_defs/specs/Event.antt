-- Which definitions of events a stream can hold.
use Rattle.std.specs.Prelude.{ℕ, ◌+◌, Bool, true, ◌&&◌, ◌||◌, List, [], ◌∷◌, length, nat_eq, nat_lt, nat_le, ◌==◌, if◌then◌else◌}
use Rattle.std.specs.List.{list_all}
use Rattle.std.specs.Int.{is_in_range}
use Rattle.std.specs.Cmp.Lexicographic.{pointwise}
use Rattle.ep_defs.specs.declared.limits.TheConstants.{FIELD_DEPTH, FIELD_NAME_UNITS, FIELDS, NAME_UNITS}
use Rattle.ep_defs.specs.declared.event.TheConstants.{OBJECT_CODE, FIRST_CODE, LAST_CODE, LAST_UNIT}
use Rattle.ep_defs.specs.declared.event.FieldDef.{FieldDef}
use Rattle.ep_defs.specs.declared.event.EventDef.{EventDef}

-- The type codes of the NetTrace format (the format document of PerfView, version 4): Object, then Boolean up to
-- String.
abbrev pub is_type_code : ℕ → Bool
is_type_code code = (code == OBJECT_CODE) || is_in_range FIRST_CODE LAST_CODE code

-- A text of at most this many units of UTF-16. A zero unit would end it early.
abbrev pub is_text : ℕ → List ℕ → Bool
is_text most units = nat_le (length units) most && list_all (λ unit. is_in_range 1 LAST_UNIT unit) units

-- The greatest depth of the field after this one: one more inside an object (this project's profile).
abbrev pub deepest_after : FieldDef → ℕ
deepest_after field = if field.code == OBJECT_CODE then field.depth + 1 else field.depth

-- The fields stand in the order of a payload, the first at no greater depth than this.
abbrev pub are_nested : ℕ → List FieldDef → Bool
are_nested deepest [] = true
are_nested deepest (field ∷ fields) = nat_le field.depth deepest && are_nested (deepest_after field) fields

-- A field of a known type, with a name that is short enough, inside of few enough objects.
abbrev pub is_valid_field : FieldDef → Bool
is_valid_field field = is_type_code field.code && is_text FIELD_NAME_UNITS field.name && nat_le field.depth FIELD_DEPTH

-- Few enough fields, each of them valid, in the order of a payload.
abbrev pub are_valid_fields : List FieldDef → Bool
are_valid_fields fields = nat_le (length fields) FIELDS && list_all is_valid_field fields && are_nested 0 fields

-- The bounds of this project's profile on a definition that is written.
abbrev pub is_valid_event : EventDef → Bool
is_valid_event def =
    nat_lt 0 (length def.provider)
    && is_text NAME_UNITS def.provider
    && is_text NAME_UNITS def.name
    && are_valid_fields def.fields

-- ---- sameness

-- Two texts are the same, unit for unit.
abbrev pub is_same_text : List ℕ → List ℕ → Bool
is_same_text a b = pointwise nat_eq a b

-- Two fields are the same.
abbrev pub is_same_field : FieldDef → FieldDef → Bool
is_same_field a b = (a.depth == b.depth) && (a.code == b.code) && is_same_text a.name b.name

-- Two definitions are the same, part for part.
abbrev pub is_same_event : EventDef → EventDef → Bool
is_same_event a b =
    is_same_text a.provider b.provider
    && (a.id == b.id)
    && (a.version == b.version)
    && (a.level == b.level)
    && (a.keywords == b.keywords)
    && is_same_text a.name b.name
    && pointwise is_same_field a.fields b.fields
