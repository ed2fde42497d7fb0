-- What is valid fits its types.
use Rattle.std.proofs.Common.{◌≡◌, ℕ, ◌^◌, ◌<◌, ◌≤◌, refl, Bool, true, leb, List, length, get_or, arith, inl, inr}
use Rattle.std.specs.Prelude.{All, IsTrue, nat_lt, nat_le, ◌==◌, ◌&&◌}
use Rattle.std.specs.List.{list_all}
use Rattle.std.specs.Int.{is_in_range}
use Rattle.std.proofs.lemmas.Bool.{and_parts, leb-true, lt-ltb, or_cases, eqb-true}
use Rattle.std.proofs.lemmas.List.Sums.{AllPass-from_list_all, list_all-from_AllPass}
use Rattle.ep_defs.specs.declared.limits.TheConstants.{FIELD_DEPTH, FIELD_NAME_UNITS, NAME_UNITS, FIELDS}
use Rattle.ep_defs.specs.declared.event.TheConstants.{OBJECT_CODE, FIRST_CODE, LAST_CODE, LAST_UNIT}
use Rattle.ep_defs.specs.declared.event.FieldDef.{FieldDef}
use Rattle.ep_defs.specs.declared.event.EventDef.{EventDef}
use Rattle.ep_defs.specs.declared.session.TraceInfo.{TraceInfo}
use Rattle.ep_defs.specs.Event.{is_type_code, is_text, is_valid_field, are_nested, are_valid_fields, is_valid_event}
use Rattle.ep_defs.specs.Ranges.{AreUnits, FieldFits, EventFits}
use Rattle.ep_defs.specs.Session.{is_info}

-- What holds of all that pass a test holds of each element of a list that passes it.
all-passing : {X : Type 0} (P : X → Type 0) (p : X → Bool) → ((x : X) → p x ≡ true → P x) → (xs : List X) → list_all p xs ≡ true → All P xs
all-passing P p holds xs passes = λ k d below. holds (get_or xs k d) (AllPass-from_list_all p xs passes k d below)

-- A number in a range is at most its end.
in-range : (low high n : ℕ) → is_in_range low high n ≡ true → n ≤ high
in-range low high n within = leb-true n high (and_parts (leb low n) (leb n high) within).1

-- The units of a text have 16 bits.
text-fits : (most : ℕ) (units : List ℕ) → is_text most units ≡ true → AreUnits units
text-fits most units text =
    let each = and_parts (leb (length units) most) (list_all (λ unit. is_in_range 1 LAST_UNIT unit) units) text in
    all-passing (λ unit. unit < 2 ^ 16) (λ unit. is_in_range 1 LAST_UNIT unit) (λ unit passes. omega (arith, in-range 1 LAST_UNIT unit passes)) units each.1

-- A type code has 8 bits.
code-fits : (code : ℕ) → is_type_code code ≡ true → code < 2 ^ 8
code-fits code valid =
    elim (or_cases (code == OBJECT_CODE) (is_in_range FIRST_CODE LAST_CODE code) valid) [
      | inl object ↦ omega (arith, eqb-true code OBJECT_CODE object)
      | inr other ↦ omega (arith, in-range FIRST_CODE LAST_CODE code other)
    ]

-- A valid field fits its types.
field-fits : (field : FieldDef) → is_valid_field field ≡ true → FieldFits field
field-fits field valid =
    let both = and_parts (is_type_code field.code && is_text FIELD_NAME_UNITS field.name) (leb field.depth FIELD_DEPTH) valid in
    let first = and_parts (is_type_code field.code) (is_text FIELD_NAME_UNITS field.name) both.0 in
    record {
      depth = omega (arith, leb-true field.depth FIELD_DEPTH both.1);
      code = code-fits field.code first.0;
      name = text-fits FIELD_NAME_UNITS field.name first.1;
    }

-- Valid fields fit their types.
fields-fit : (fields : List FieldDef) → are_valid_fields fields ≡ true → All FieldFits fields
fields-fit fields valid =
    let few = nat_le (length fields) FIELDS in
    let each = list_all is_valid_field fields in
    all-passing FieldFits is_valid_field field-fits fields (and_parts few each (and_parts (few && each) (are_nested 0 fields) valid).0).1

-- A valid definition fits its types where its four numbers do.
pub event-fits : (def : EventDef) → is_valid_event def ≡ true → def.id < 2 ^ 32 → def.version < 2 ^ 32 → def.level < 2 ^ 32 → def.keywords < 2 ^ 64 → EventFits def
event-fits def valid id version level keywords =
    let named = nat_lt 0 (length def.provider) in
    let provider = is_text NAME_UNITS def.provider in
    let name = is_text NAME_UNITS def.name in
    let last = and_parts (named && provider && name) (are_valid_fields def.fields) valid in
    let middle = and_parts (named && provider) name last.0 in
    record {
      provider = text-fits NAME_UNITS def.provider (and_parts named provider middle.0).1;
      id = id;
      version = version;
      level = level;
      keywords = keywords;
      name = text-fits NAME_UNITS def.name middle.1;
      fields = fields-fit def.fields last.1;
    }

-- A program's Trace content fits its types where each part does.
pub info-fits : (info : TraceInfo) → length info.date ≡ 8 → AreUnits info.date → info.sync < 2 ^ 64 → info.frequency < 2 ^ 64 → info.pointer_size < 2 ^ 32 → info.process_id < 2 ^ 32 → info.processors < 2 ^ 32 → info.rate < 2 ^ 32 → IsTrue (is_info info)
info-fits info date units sync frequency pointer_size process_id processors rate =
    let fit = list_all-from_AllPass (λ n. nat_lt n (2 ^ 16)) info.date (λ k d below. lt-ltb (get_or info.date k d) (2 ^ 16) (units k d below)) in
    rw (date, fit, lt-ltb info.sync (2 ^ 64) sync, lt-ltb info.frequency (2 ^ 64) frequency, lt-ltb info.pointer_size (2 ^ 32) pointer_size, lt-ltb info.process_id (2 ^ 32) process_id, lt-ltb info.processors (2 ^ 32) processors, lt-ltb info.rate (2 ^ 32) rate) refl
