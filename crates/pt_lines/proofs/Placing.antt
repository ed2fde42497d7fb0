-- Fields that are numbers, written into a buffer one before another.
use Rattle.std.proofs.Common.{◌≡◌, ℕ, suc, false, eqb, true≢false, ◌+◌, ◌-◌, ◌<◌, ◌≤◌, decimal, get_or, drop-cons, List, [], ◌∷◌, ◌++◌, length, take, drop, Result, Some, Ok, Option, refl, sym, ap, ◌∙◌, subst, append_assoc, arith}
use Rattle.std.specs.Prelude.{OnOk, codes}
use Rattle.std.specs.List.{concat, flat_map}
use Rattle.std.proofs.lemmas.List.{append-nil, drop-drop, drop_all, length-append, length-drop, take-append-drop, take-take}
use Rattle.std.proofs.lemmas.Result.{on_ok_weaker}
use Rattle.pt_print.specs.Printed.{number_part, units_part}
use Rattle.ep_defs.specs.declared.event.FieldDef.{FieldDef}
use Rattle.ep_defs.specs.Entry.{EventEntry}
use Rattle.ep_defs.specs.Event.{deepest_after}
use Rattle.nt_fields.specs.Values.{FieldValue, Misfit, payload_at, values_at}
use Rattle.pt_lines.specs.declared.form.Form.TheVariants as forms
use Rattle.pt_lines.specs.declared.number.HeldNumber.{HeldNumber}
use Rattle.pt_lines.specs.declared.origin.Origin.{Origin}
use Rattle.pt_lines.specs.Line.{Event}
use Rattle.pt_lines.specs.Texts.{AreFields, IsPayload, closes, event_start, field_name, name_unit, quoted}
use Rattle.pt_lines.specs.Forms.{IsLine}
use Rattle.pt_lines.specs.Json.{AreMembers, AreShownBy, IsPayloadMember, behind_commas, commas, members_of}
use Rattle.pt_lines.specs.Appends.{Appends}
use Rattle.pt_lines.specs.state.Held.{HoldsNumber}
use Rattle.pt_lines.specs.state.Opening.{IsLastPayload, IsNextPayload, opening}
use Rattle.pt_lines.specs.state.Pieces.{label_text, member_text, names_text, numbers_text}
use Rattle.pt_lines.specs.state.Plain.{ClosesMembers, Placed, PlacesFields, PlacesMembers}
use Rattle.pt_lines.proofs.Going.{no-fields, values-on}

-- ---- pieces of a buffer

-- Nothing was written.
pub placed-none : (place : ℕ) (text : List ℕ) → Placed [] place place text text
placed-none place text = (omega arith, refl, refl)

-- A piece more, before the others.
pub placed-more : (piece more : List ℕ) (start mid end : ℕ) (old now new : List ℕ) → Placed piece mid end old now → start ≤ mid
    → drop start new ≡ more ++ drop mid now → take start new ≡ take start now → Placed (more ++ piece) start end old new
placed-more piece more start mid end old now new (within, put, stands) le next before = (
  omega (arith, within, le),
  next ∙ ap (λ (xs : List ℕ). more ++ xs) put ∙ sym (append_assoc more piece (drop end old)),
  before
      ∙ sym (take-take start mid now le)
      ∙ ap (λ (xs : List ℕ). take start xs) stands
      ∙ take-take start mid old le,
)

-- ---- the values of a payload

-- Of its fields the last ones have these values.
pub record Ends (fields : List FieldDef) (payload : List ℕ) (left : List FieldDef) (before : ℕ) (done : List FieldDef) (values : List FieldValue) : Type 0 where
  pub all : fields ≡ left ++ done
  pub read : values_at done (drop before payload) ≡ Ok (values, [])

pub ends-none : (fields : List FieldDef) (payload : List ℕ) → Ends fields payload fields (length payload) [] []
ends-none fields payload =
    record {
      all = sym (append-nil fields);
      read = no-fields (drop (length payload) payload) ∙ ap (λ (rest : List ℕ). Ok ([], rest)) (drop_all (length payload) payload (omega arith));
    }

pub ends-more : (fields : List FieldDef) (payload : List ℕ) (left rest : List FieldDef) (field : FieldDef) (before : ℕ) (held : HeldNumber) (done : List FieldDef) (values : List FieldValue)
    → Ends fields payload left before done values → left ≡ rest ++ field ∷ [] → held.used ≤ before
    → (holds : HoldsNumber field (drop (before - held.used) payload) held)
    → Ends fields payload rest (before - held.used) (field ∷ done) (holds.0 ∷ values)
ends-more fields payload left rest field before held done values ends is within (value, has, shown, object) =
    let place : (before - held.used) + held.used ≡ before = omega (arith, within) in
    let behind : drop held.used (drop (before - held.used) payload) ≡ drop before payload =
    drop-drop held.used (before - held.used) payload ∙ ap (λ (n : ℕ). drop n payload) place in
    let later : values_at done (drop held.used (drop (before - held.used) payload)) ≡ Ok (values, []) =
    ap (λ (bytes : List ℕ). values_at done bytes) behind ∙ ends.read in
    record {
      all = ends.all ∙ ap (λ (fs : List FieldDef). fs ++ done) is ∙ append_assoc rest (field ∷ []) done;
      read = values-on field done (drop (before - held.used) payload) (drop held.used (drop (before - held.used) payload)) [] has.kind value values has.known has.read later;
    }

-- All of them have.
pub ends-all : (fields : List FieldDef) (payload : List ℕ) (left : List FieldDef) (before : ℕ) (done : List FieldDef) (values : List FieldValue)
    → Ends fields payload left before done values → left ≡ [] → before ≡ 0 → (done ≡ fields) × (payload_at fields payload ≡ Ok values)
ends-all fields payload left before done values ends none zero =
    let same : fields ≡ done = ends.all ∙ ap (λ (fs : List FieldDef). fs ++ done) none in
    let whole : values_at fields payload ≡ Ok (values, []) =
    ap (λ (fs : List FieldDef). values_at fs payload) same ∙ ap (λ (n : ℕ). values_at done (drop n payload)) (sym zero) ∙ ends.read in
    (sym same, rw whole refl)

-- ---- fields of a line

pub record Fielded (fields : List FieldDef) (payload : List ℕ) (left : List FieldDef) (before start end : ℕ) (old new : List ℕ) : Type 0 where
  pub done : List FieldDef
  pub values : List FieldValue
  pub piece : List ℕ
  pub ends : Ends fields payload left before done values
  pub are : AreFields 0 done values piece
  pub put : Placed piece start end old new

pub fielded-none : (fields : List FieldDef) (payload : List ℕ) (end : ℕ) (text : List ℕ) → Fielded fields payload fields (length payload) end end text text
fielded-none fields payload end text =
    record { done = []; values = []; piece = []; ends = ends-none fields payload; are = refl; put = placed-none end text }

-- Where no object is open, no end of one stands before a name.
named-label : (field : FieldDef) → label_text field ≡ field_name 0 field
named-label field =
    let none : 0 ≡ 0 - field.depth = omega arith in
    ap (λ (n : ℕ). concat (closes n ∷ codes " " ∷ flat_map name_unit field.name ∷ codes "=" ∷ [])) none

pub fielded-more : (fields : List FieldDef) (payload : List ℕ) (left rest : List FieldDef) (field : FieldDef) (before : ℕ) (held : HeldNumber) (start digits mid end : ℕ) (label old now placed new : List ℕ)
    → Fielded fields payload left before mid end old now → left ≡ rest ++ field ∷ [] → held.used ≤ before
    → HoldsNumber field (drop (before - held.used) payload) held → deepest_after field ≡ 0 → label ≡ label_text field
    → digits ≤ mid → drop digits placed ≡ decimal held.number ++ drop mid now → take digits placed ≡ take digits now
    → start ≤ digits → drop start new ≡ label ++ drop digits placed → take start new ≡ take start placed
    → Fielded fields payload rest (before - held.used) start end old new
fielded-more fields payload left rest field before held start digits mid end label old now placed new going is within holds shallow named le number stands more name keeps =
    let value = holds.0 in
    let text : List ℕ = decimal held.number in
    let first = placed-more going.piece text digits mid end old now placed going.put le number stands in
    let behind : AreFields (deepest_after field) going.done going.values going.piece =
    subst (λ (n : ℕ). AreFields n going.done going.values going.piece) (sym shallow) going.are in
    record {
      done = field ∷ going.done;
      values = value ∷ going.values;
      piece = label ++ (text ++ going.piece);
      ends = ends-more fields payload left rest field before held going.done going.values going.ends is within holds;
      are = (text, going.piece, holds.2, behind, ap (λ (xs : List ℕ). xs ++ (text ++ going.piece)) (named ∙ named-label field) ∙ sym (append_assoc (field_name 0 field) text going.piece));
      put = placed-more (text ++ going.piece) label start digits end old placed new first more name keeps;
    }

-- ---- members of an object

-- The comma before the first member of some fields.
abbrev pub first_comma : List FieldDef → List ℕ
first_comma [] = []
first_comma (field ∷ fields) = codes ","

pub record Membered (fields : List FieldDef) (payload : List ℕ) (left : List FieldDef) (before start end : ℕ) (old new : List ℕ) : Type 0 where
  pub done : List FieldDef
  pub values : List FieldValue
  pub shown : List (Option (List ℕ))
  pub ends : Ends fields payload left before done values
  pub are : AreShownBy values shown
  pub begun : behind_commas (members_of done shown) ≡ first_comma done ++ commas (members_of done shown)
  pub put : Placed (behind_commas (members_of done shown)) start end old new

pub membered-none : (fields : List FieldDef) (payload : List ℕ) (end : ℕ) (text : List ℕ) → Membered fields payload fields (length payload) end end text text
membered-none fields payload end text =
    record { done = []; values = []; shown = []; ends = ends-none fields payload; are = tt; begun = refl; put = placed-none end text }

-- A member behind its comma.
member-is : (field : FieldDef) (text piece : List ℕ) → member_text field ++ (text ++ piece) ≡ (codes "," ++ (quoted field.name ++ codes ":" ++ text)) ++ piece
member-is field text piece = simp append_assoc

pub membered-more : (fields : List FieldDef) (payload : List ℕ) (left rest : List FieldDef) (field : FieldDef) (before : ℕ) (held : HeldNumber) (start digits mid end : ℕ) (member old now placed new : List ℕ)
    → Membered fields payload left before mid end old now → left ≡ rest ++ field ∷ [] → held.used ≤ before
    → HoldsNumber field (drop (before - held.used) payload) held → member ≡ member_text field
    → digits ≤ mid → drop digits placed ≡ decimal held.number ++ drop mid now → take digits placed ≡ take digits now
    → start ≤ digits → drop start new ≡ member ++ drop digits placed → take start new ≡ take start placed
    → Membered fields payload rest (before - held.used) start end old new
membered-more fields payload left rest field before held start digits mid end member old now placed new going is within holds named le number stands more name keeps =
    let text : List ℕ = decimal held.number in
    let behind : List ℕ = behind_commas (members_of going.done going.shown) in
    let first = placed-more behind text digits mid end old now placed going.put le number stands in
    let both = placed-more (text ++ behind) member start digits end old placed new first more name keeps in
    let joined : member ++ (text ++ behind) ≡ behind_commas (members_of (field ∷ going.done) (Some text ∷ going.shown)) =
    ap (λ (xs : List ℕ). xs ++ (text ++ behind)) named ∙ member-is field text behind in
    record {
      done = field ∷ going.done;
      values = holds.0 ∷ going.values;
      shown = Some text ∷ going.shown;
      ends = ends-more fields payload left rest field before held going.done going.values going.ends is within holds;
      are = (holds.3, going.are);
      begun = refl;
      put = subst (λ (piece : List ℕ). Placed piece start end old new) joined both;
    }

-- They were written behind the comma of the first of them.
pub membered-all : (fields : List FieldDef) (payload : List ℕ) (left : List FieldDef) (before start end : ℕ) (old new : List ℕ)
    → Membered fields payload left before start end old new → left ≡ [] → before ≡ 0
    → (values : List FieldValue) × (inner : List ℕ) × (payload_at fields payload ≡ Ok values) × AreMembers fields values inner × Placed (first_comma fields ++ inner) start end old new
membered-all fields payload left before start end old new going none zero =
    let all = ends-all fields payload left before going.done going.values going.ends none zero in
    let put = subst (λ (piece : List ℕ). Placed piece start end old new) going.begun going.put in (
      going.values,
      commas (members_of fields going.shown),
      all.1,
      (going.shown, going.are, refl),
      subst (λ (fs : List FieldDef). Placed (first_comma fs ++ commas (members_of fs going.shown)) start end old new) all.0 put,
    )

-- ---- with what stands around them

-- What stands before a place stands before an earlier one too.
pub kept : (a b : ℕ) (xs ys : List ℕ) → a ≤ b → take b xs ≡ take b ys → take a xs ≡ take a ys
kept a b xs ys le same = sym (take-take a b xs le) ∙ ap (λ (zs : List ℕ). take a zs) same ∙ take-take a b ys le

-- The values of a payload are those of the event's.
pub fits-same : (fields same : List FieldDef) (payload bytes : List ℕ) (values : List FieldValue) → fields ≡ same → payload ≡ bytes → payload_at fields payload ≡ Ok values
    → payload_at same bytes ≡ Ok values
fits-same fields same payload bytes values same_fields same_bytes fits =
    sym (ap (λ (fs : List FieldDef). payload_at fs payload) same_fields ∙ ap (λ (p : List ℕ). payload_at same p) same_bytes) ∙ fits

start-is : (word a b c p n rest : List ℕ) → (word ++ (a ++ (b ++ c))) ++ ((p ++ n) ++ rest) ≡ (word ++ (a ++ (b ++ (c ++ (p ++ (n ++ [])))))) ++ rest
start-is word a b c p n rest = simp (append_assoc, append-nil)

-- The line of an event.
pub line-placed : (origin : Origin) (processor thread : ℕ) (entry : EventEntry) (fields : List FieldDef) (payload : List ℕ) (values : List FieldValue) (piece line : List ℕ)
    → fields ≡ entry.def.fields → payload ≡ entry.payload → payload_at fields payload ≡ Ok values → AreFields 0 fields values piece
    → line ≡ numbers_text entry.stamp entry.thread entry.number ++ (names_text entry.def ++ (piece ++ 10 ∷ []))
    → IsLine forms.Lines (Event origin processor thread entry) line
line-placed origin processor thread entry fields payload values piece line same_fields same_payload fits are put =
    let told : payload_at entry.def.fields entry.payload ≡ Ok values = fits-same fields entry.def.fields payload entry.payload values same_fields same_payload fits in
    let shown : AreFields 0 entry.def.fields values piece = subst (λ (fs : List FieldDef). AreFields 0 fs values piece) same_fields are in (
      piece,
      subst (λ (answer : Result (List FieldValue) Misfit). IsPayload entry.def.fields entry.payload answer piece) (sym told) shown,
      put
          ∙ start-is (codes "event") (number_part entry.stamp) (number_part entry.thread) (number_part entry.number) (units_part entry.def.provider) (units_part entry.def.name) (piece ++ 10 ∷ [])
          ∙ sym (append_assoc (event_start entry) piece (10 ∷ [])),
    )

-- The members of a payload, the end of their object, and what stands behind it.
pub payload-ends : (fields : List FieldDef) (payload end : List ℕ) (values : List FieldValue) (inner : List ℕ) → payload_at fields payload ≡ Ok values → AreMembers fields values inner
    → IsLastPayload fields payload (payload_at fields payload) end (opening ++ (inner ++ (codes "}" ++ end)))
payload-ends fields payload end values inner fits are =
    let member : List ℕ = codes "\"fields\":{" ++ inner ++ codes "}" in
    let told : IsPayloadMember fields payload (payload_at fields payload) member =
    subst (λ (answer : Result (List FieldValue) Misfit). IsPayloadMember fields payload answer member) (sym fits) (inner, are, refl) in
    (codes "," ++ member, (member, told, refl), ap (λ (xs : List ℕ). opening ++ xs) (sym (append_assoc inner (codes "}") end)))

-- They were put behind what opens them.
pub closed-put : {E A : Type 0} (answer : Result A E) (fields : List FieldDef) (payload end old out piece new : List ℕ)
    → ClosesMembers fields payload end piece → out ≡ old ++ opening → OnOk answer (new ≡ out ++ piece)
    → OnOk answer (Appends (IsLastPayload fields payload (payload_at fields payload) end) old new)
closed-put answer fields payload end old out piece new (values, inner, fits, are, is) begun put =
    on_ok_weaker answer
    (λ e. (
      opening ++ (inner ++ (codes "}" ++ end)),
      payload-ends fields payload end values inner fits are,
      e
          ∙ ap (λ (xs : List ℕ). xs ++ piece) begun
          ∙ append_assoc old opening piece
          ∙ ap (λ (xs : List ℕ). old ++ (opening ++ xs)) is,
    ))
    put

-- The end of what holds them was put with them.
pub last-split : (fields : List FieldDef) (payload end old new : List ℕ) → Appends (IsLastPayload fields payload (payload_at fields payload) end) old new
    → (mid : List ℕ) × Appends (IsNextPayload fields payload (payload_at fields payload)) old mid × (new ≡ mid ++ end)
last-split fields payload end old new (last, (next, is, ends), put) =
    (old ++ next, (next, is, refl), put ∙ ap (λ (xs : List ℕ). old ++ xs) ends ∙ sym (append_assoc old next end))

-- It was put behind them.
pub last-put : {E A : Type 0} (answer : Result A E) (fields : List FieldDef) (payload end old mid new : List ℕ) → Appends (IsNextPayload fields payload (payload_at fields payload)) old mid
    → OnOk answer (new ≡ mid ++ end) → OnOk answer (Appends (IsLastPayload fields payload (payload_at fields payload) end) old new)
last-put answer fields payload end old mid new (next, is, here) put =
    on_ok_weaker answer
    (λ e. (next ++ end, (next, is, refl), e ∙ ap (λ (xs : List ℕ). xs ++ end) here ∙ append_assoc old next end))
    put

-- They are those of the event's.
pub last-of : (fields : List FieldDef) (payload : List ℕ) (same : List FieldDef) (bytes end last : List ℕ) → fields ≡ same → payload ≡ bytes
    → IsLastPayload fields payload (payload_at fields payload) end last → IsLastPayload same bytes (payload_at same bytes) end last
last-of fields payload same bytes end last same_fields same_payload is =
    subst (λ (p : List ℕ). IsLastPayload same p (payload_at same p) end last) same_payload
    (subst (λ (f : List FieldDef). IsLastPayload f payload (payload_at f payload) end last) same_fields is)

-- ---- the last of the fields that are left

pub with-last : (left : List FieldDef) (count : ℕ) (field other : FieldDef) → count + 1 ≡ length left → field ≡ get_or left count other → left ≡ take count left ++ field ∷ []
with-last left count field other long is =
    let within : suc count ≡ length left = omega (arith, long) in
    sym (take-append-drop count left)
    ∙ ap (λ (fs : List FieldDef). take count left ++ fs)
    (drop-cons left count other (omega (arith, long))
    ∙ ap (λ (f : FieldDef). f ∷ drop (suc count) left) (sym is)
    ∙ ap (λ (fs : List FieldDef). field ∷ fs) (drop_all (suc count) left (omega (arith, within))))

-- ---- the first member has no comma

pub members-none : (fields : List FieldDef) (payload : List ℕ) (values : List FieldValue) (inner : List ℕ) (start end : ℕ) (old new : List ℕ) → length fields ≡ 0
    → payload_at fields payload ≡ Ok values → AreMembers fields values inner → Placed (first_comma fields ++ inner) start end old new → PlacesMembers fields payload start end old new
members-none [] payload values inner start end old new none fits are (within, put, stands) = (values, inner, fits, are, within, put)
members-none (field ∷ fields) payload values inner start end old new none fits are placed = absurd (omega (arith, none))

pub some-fields : (fields : List FieldDef) → eqb (length fields) 0 ≡ false → 0 < length fields
some-fields [] none = absurd (true≢false none)
some-fields (field ∷ fields) some = omega arith

pub members-some : (fields : List FieldDef) (payload : List ℕ) (values : List FieldValue) (inner : List ℕ) (start end : ℕ) (old new : List ℕ) → 0 < length fields → end ≤ length old → length new ≡ length old
    → payload_at fields payload ≡ Ok values → AreMembers fields values inner → Placed (first_comma fields ++ inner) start end old new → PlacesMembers fields payload (start + 1) end old new
members-some [] payload values inner start end old new some room same fits are placed = absurd (omega (arith, some))
members-some (field ∷ fields) payload values inner start end old new some room same fits are (within, put, stands) =
    let rest : List ℕ = drop end old in
    let long = ap length put in (
      values,
      inner,
      fits,
      are,
      omega (arith, within, room, same, long, length-drop start new, length-append inner rest, length-drop end old),
      sym (drop-drop 1 start new) ∙ ap (λ (xs : List ℕ). drop 1 xs) put,
    )
