-- A valid definition of an event fits the payload of a metadata blob.
use Rattle.std.proofs.Common.{◌≡◌, ℕ, zero, suc, ◌+◌, ◌*◌, ◌^◌, ◌<◌, ◌≤◌, Bool, true, false, cond, eqb, leb, List, [], ◌∷◌, ◌++◌, length, take, drop, refl, sym, ap, arith, length-append, length-take, length-drop}
use Rattle.std.proofs.lemmas.Bool.{and_parts, and_from, leb-true, le-leb}
use Rattle.std.proofs.lemmas.List.Sums.{count_by-le-length}
use Rattle.std.specs.Prelude.{◌&&◌, IsTrue, nat_lt}
use Rattle.std.specs.List.{AllByRecursion, list_all, prefix_len}
use Rattle.std.specs.Int.{w16, w32, w64}
use Rattle.ep_defs.specs.declared.limits.TheConstants.{FIELD_DEPTH, FIELD_NAME_UNITS, FIELDS, NAME_UNITS, PAYLOAD_BYTES}
use Rattle.ep_defs.specs.declared.event.FieldDef.{FieldDef}
use Rattle.ep_defs.specs.declared.event.EventDef.{EventDef}
use Rattle.ep_defs.specs.Event.{is_type_code, is_text, are_nested, is_valid_field, are_valid_fields, is_valid_event}
use Rattle.pt_num.specs.Numbers.{fixed}
use Rattle.pt_num.specs.Texts.{units_bytes, text_z, are_units}
use Rattle.nt_meta.specs.Meta.{inside, after, inside_count, inside_counts, fields_bytes, outermost_count, meta_payload, is_readable_field}
use Rattle.ep_defs.specs.Ranges.{EventFits}
use Rattle.nt_meta.specs.Meta.{FitsPayload, IsMeta}
use Rattle.nt_meta.specs.declared.limits.TheConstants.{LAST_ID, READ_DEPTH}
use Rattle.std.proofs.lemmas.List.{append-nil}
use Rattle.std.proofs.lemmas.List.Elements.{All-nil}
use Rattle.pt_num.proofs.Lengths.{length-fixed16, length-fixed32, length-fixed64}
use Rattle.pt_num.proofs.TextForms.{units_long}

-- So does the zero unit behind them.
text-len : (units : List ℕ) → length (text_z units) ≡ 2 * length units + 2
text-len units = omega (arith, length-append (units_bytes units) (fixed w16 0), units_long units, length-fixed16 0)

-- The name of a field that is written.
abbrev HasShortName : FieldDef → Type 0
HasShortName field = length field.name ≤ FIELD_NAME_UNITS

-- What holds of all fields holds of the first ones.
all-take : {A : Type 0} (P : A → Type 0) (n : ℕ) (xs : List A) → AllByRecursion P xs → AllByRecursion P (take n xs)
all-take P zero xs h = tt
all-take P (suc n) [] h = tt
all-take P (suc n) (x ∷ xs) h = (h.0, all-take P n xs h.1)

-- And of those behind them.
all-drop : {A : Type 0} (P : A → Type 0) (n : ℕ) (xs : List A) → AllByRecursion P xs → AllByRecursion P (drop n xs)
all-drop P zero xs h = h
all-drop P (suc n) [] h = tt
all-drop P (suc n) (x ∷ xs) h = all-drop P n xs h.1

-- The fields inside one and those after it are no more than all.
parts-len : (field : FieldDef) (fields : List FieldDef) → length (inside field fields) + length (after field fields) ≤ length fields
parts-len field fields = counted (inside field fields) (prefix_len (λ f. nat_lt field.depth f.depth) fields) refl
  where
    counted : (front : List FieldDef) (n : ℕ) → front ≡ take n fields → length front + length (drop (length front) fields) ≤ length fields
    counted front n e = omega (arith, length-drop (length front) fields, length-take n fields, ap (λ (fs : List FieldDef). length fs) e)

-- The bytes that a field takes at most: two numbers, and its name with the zero unit.
abbrev longest_field : ℕ
longest_field = 4 + 4 + (2 * FIELD_NAME_UNITS + 2)

-- One field with what is inside it and after it.
field-len : (is_object : Bool) (code count within name behind : List ℕ) (n m all : ℕ) → length code ≡ 4 → length count ≡ 4 → length within ≤ longest_field * n → length name ≤ 2 * FIELD_NAME_UNITS + 2 → length behind ≤ longest_field * m → n + m ≤ all → length (code ++ cond is_object (count ++ within) [] ++ name ++ behind) ≤ longest_field * suc all
field-len true code count within name behind n m all a b c d e f =
    omega (arith, length-append (code ++ (count ++ within) ++ name) behind, length-append (code ++ (count ++ within)) name, length-append code (count ++ within), length-append count within)
field-len false code count within name behind n m all a b c d e f =
    omega (arith, length-append (code ++ [] ++ name) behind, length-append (code ++ []) name, length-append code [])

-- Each field takes so many.
fields-len : (more : ℕ) (fields : List FieldDef) → AllByRecursion HasShortName fields → length (fields_bytes more fields) ≤ longest_field * length fields
fields-len zero fields h = omega arith
fields-len (suc more) [] h = omega arith
fields-len (suc more) (field ∷ fields) h =
    field-len (eqb field.code 1) (fixed w32 field.code) (fixed w32 (inside_count field fields)) (fields_bytes more (inside field fields)) (text_z field.name) (fields_bytes more (after field fields)) (length (inside field fields)) (length (after field fields)) (length fields)
    (length-fixed32 field.code) (length-fixed32 (inside_count field fields))
    (fields-len more (inside field fields) (all-take HasShortName (prefix_len (λ f. nat_lt field.depth f.depth) fields) fields h.1))
    (omega (arith, text-len field.name, h.0))
    (fields-len more (after field fields) (all-drop HasShortName (length (inside field fields)) fields h.1))
    (parts-len field fields)

-- A payload with few fields and short texts.
payload-len : (id : ℕ) (def : EventDef) → length def.provider ≤ NAME_UNITS → length def.name ≤ NAME_UNITS → length def.fields ≤ FIELDS → AllByRecursion HasShortName def.fields → length (meta_payload id def) ≤ PAYLOAD_BYTES
payload-len id def p n f h =
    nine (fixed w32 id) (text_z def.provider) (fixed w32 def.id) (text_z def.name) (fixed w64 def.keywords) (fixed w32 def.version) (fixed w32 def.level) (fixed w32 (outermost_count def.fields)) (fields_bytes (length def.fields) def.fields)
    (length-fixed32 id) (omega (arith, text-len def.provider, p)) (length-fixed32 def.id) (omega (arith, text-len def.name, n)) (length-fixed64 def.keywords) (length-fixed32 def.version) (length-fixed32 def.level) (length-fixed32 (outermost_count def.fields))
    (omega (arith, fields-len (length def.fields) def.fields h, f))
  where
    nine : (a b c d e f g h i : List ℕ) → length a ≡ 4 → length b ≤ 2 * NAME_UNITS + 2 → length c ≡ 4 → length d ≤ 2 * NAME_UNITS + 2 → length e ≡ 8 → length f ≡ 4 → length g ≡ 4 → length h ≡ 4 → length i ≤ longest_field * FIELDS → length (a ++ b ++ c ++ d ++ e ++ f ++ g ++ h ++ i) ≤ PAYLOAD_BYTES
    nine a b c d e f g h i la lb lc ld le lf lg lh li =
        omega (arith, length-append (a ++ b ++ c ++ d ++ e ++ f ++ g ++ h) i, length-append (a ++ b ++ c ++ d ++ e ++ f ++ g) h, length-append (a ++ b ++ c ++ d ++ e ++ f) g, length-append (a ++ b ++ c ++ d ++ e) f, length-append (a ++ b ++ c ++ d) e, length-append (a ++ b ++ c) d, length-append (a ++ b) c, length-append a b)

-- No field holds more fields than there are.
counts-fit : (fields : List FieldDef) → length fields < 2 ^ 32 → AllByRecursion (λ count. count < 2 ^ 32) (inside_counts fields)
counts-fit [] h = tt
counts-fit (field ∷ fields) h =
    (omega (arith, count_by-le-length (λ (f : FieldDef). eqb f.depth (field.depth + 1)) (inside field fields), parts-len field fields), counts-fit fields (omega arith))

-- What a valid field says of itself.
record IsGoodField (field : FieldDef) : Type 0 where
  pub short : HasShortName field
  pub readable : is_readable_field field ≡ true

good-field : (field : FieldDef) → is_valid_field field ≡ true → IsGoodField field
good-field field h =
    let outer = and_parts (is_type_code field.code && is_text FIELD_NAME_UNITS field.name) (leb field.depth FIELD_DEPTH) h in
    let inner = and_parts (is_type_code field.code) (is_text FIELD_NAME_UNITS field.name) outer.0 in
    let name = and_parts (leb (length field.name) FIELD_NAME_UNITS) (are_units field.name) inner.1 in
    let deep = leb-true field.depth FIELD_DEPTH outer.1 in
    record {
      short = leb-true (length field.name) FIELD_NAME_UNITS name.0;
      readable = and_from (is_type_code field.code && are_units field.name) (leb field.depth READ_DEPTH) (and_from (is_type_code field.code) (are_units field.name) inner.0 name.1) (le-leb field.depth READ_DEPTH (omega arith));
    }

-- Valid fields are readable.
good-fields : (fields : List FieldDef) → list_all is_valid_field fields ≡ true → AllByRecursion HasShortName fields × (list_all is_readable_field fields ≡ true)
good-fields [] h = (tt, refl)
good-fields (field ∷ fields) h =
    let parts = and_parts (is_valid_field field) (list_all is_valid_field fields) h in
    let first = good-field field parts.0 in
    let rest = good-fields fields parts.1 in
    ((first.short, rest.0), and_from (is_readable_field field) (list_all is_readable_field fields) first.readable rest.1)

-- What a valid definition says of itself.
record IsGoodEvent (def : EventDef) : Type 0 where
  pub short_provider : length def.provider ≤ NAME_UNITS
  pub short_name : length def.name ≤ NAME_UNITS
  pub provider_units : are_units def.provider ≡ true
  pub name_units : are_units def.name ≡ true
  pub few : length def.fields ≤ FIELDS
  pub short : AllByRecursion HasShortName def.fields
  pub readable : list_all is_readable_field def.fields ≡ true
  pub nested : are_nested 0 def.fields ≡ true

good-event : (def : EventDef) → IsTrue (is_valid_event def) → IsGoodEvent def
good-event def valid =
    let p3 = and_parts (nat_lt 0 (length def.provider) && is_text NAME_UNITS def.provider && is_text NAME_UNITS def.name) (are_valid_fields def.fields) valid in
    let p2 = and_parts (nat_lt 0 (length def.provider) && is_text NAME_UNITS def.provider) (is_text NAME_UNITS def.name) p3.0 in
    let p1 = and_parts (nat_lt 0 (length def.provider)) (is_text NAME_UNITS def.provider) p2.0 in
    let provider = and_parts (leb (length def.provider) NAME_UNITS) (are_units def.provider) p1.1 in
    let name = and_parts (leb (length def.name) NAME_UNITS) (are_units def.name) p2.1 in
    let f2 = and_parts (leb (length def.fields) FIELDS && list_all is_valid_field def.fields) (are_nested 0 def.fields) p3.1 in
    let f1 = and_parts (leb (length def.fields) FIELDS) (list_all is_valid_field def.fields) f2.0 in
    let good = good-fields def.fields f1.1 in
    record {
      short_provider = leb-true (length def.provider) NAME_UNITS provider.0;
      short_name = leb-true (length def.name) NAME_UNITS name.0;
      provider_units = provider.1;
      name_units = name.1;
      few = leb-true (length def.fields) FIELDS f1.0;
      short = good.0;
      readable = good.1;
      nested = f2.1;
    }

-- A valid definition fits the places that a payload has for its parts.
pub fits-payload : (def : EventDef) → IsTrue (is_valid_event def) → EventFits def → FitsPayload def
fits-payload def valid ranges =
    let good = good-event def valid in
    let few = good.few in
    record {
      id = ranges.id;
      version = ranges.version;
      level = ranges.level;
      keywords = ranges.keywords;
      provider = good.provider_units;
      name = good.name_units;
      counts = (omega (arith, count_by-le-length (λ (f : FieldDef). eqb f.depth 0) def.fields), counts-fit def.fields (omega arith));
      fields = and_from (list_all is_readable_field def.fields) (are_nested 0 def.fields) good.readable good.nested;
    }

-- The payload of a valid definition is short, whatever its numbers.
pub short-payload : (id : ℕ) (def : EventDef) → IsTrue (is_valid_event def) → length (meta_payload id def) ≤ PAYLOAD_BYTES
short-payload id def valid =
    let good = good-event def valid in payload-len id def good.short_provider good.short_name good.few good.short

-- What is put of a valid definition is a payload of it.
pub is-payload : (id : ℕ) (def : EventDef) → IsTrue (is_valid_event def) → EventFits def → 0 < id → id ≤ LAST_ID → IsMeta id def (meta_payload id def)
is-payload id def valid ranges some fits =
    record {
      more = [];
      spelled = sym (append-nil (meta_payload id def));
      not_zero = some;
      id_fits = fits;
      def_fits = fits-payload def valid ranges;
      more_bytes = All-nil (λ byte. byte < 2 ^ 8);
    }
