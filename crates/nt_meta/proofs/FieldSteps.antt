-- Reading fields one after another.
use Rattle.std.proofs.Common.{◌≡◌, ℕ, zero, suc, ◌+◌, ◌*◌, ◌<◌, ◌≤◌, Bool, true, false, cond, inl, inr, Result, Ok, Err, List, [], ◌∷◌, ◌++◌, length, drop, set, get_or, refl, sym, ap, subst, ◌∙◌, append_assoc, arith}
use Rattle.std.specs.Prelude.{IsErr, is_err, ◌&&◌, nat_le, nat_lt, ◌==◌}
use Rattle.std.specs.Int.{Width, w32, byte_len}
use Rattle.std.proofs.lemmas.List.{append-nil, length-drop}
use Rattle.std.proofs.lemmas.Bool.{cases_Bool, le-leb, ltb-false}
use Rattle.pt_num.specs.Steps.{◌>>=◌, check, or_else_fault}
use Rattle.pt_num.specs.Fields.{Field, Short, text_z_at, with_unit}
use Rattle.nt_meta.specs.declared.cursor.Stop.{Stop}
use Rattle.nt_meta.specs.declared.cursor.Stop.TheVariants.{BadMeta, OutOfMemory}
use Rattle.ep_defs.specs.declared.event.TheConstants.{OBJECT_CODE}
use Rattle.ep_defs.specs.declared.event.FieldDef.{FieldDef}
use Rattle.ep_defs.specs.Event.{is_type_code}
use Rattle.nt_meta.specs.declared.limits.TheConstants.{READ_DEPTH}
use Rattle.nt_meta.specs.Reading.{Part, Cut, Wrong, number_at, text_at, if_object, field_at, with_fields, fields_at}
use Rattle.nt_meta.specs.state.Cursor.{Answers, AnswersField, AnswersFields, AddsField, AddsFields}

-- ---- faults

-- What fails first fails.
pub fails_first : {E A B : Type 0} (p : Result A E) (f : A → Result B E) → IsErr p → IsErr (p >>= f)
fails_first (Ok x) f h = absurd (cc)
fails_first (Err e) f h = refl

fails_with : (front : List FieldDef) (p : Part (List FieldDef)) → IsErr p → IsErr (with_fields front p)
fails_with front (Ok x) h = absurd (cc)
fails_with front (Err e) h = refl

-- ---- fields

with_none : (p : Part (List FieldDef)) → p ≡ with_fields [] p
with_none (Ok x) = refl
with_none (Err e) = refl

with_twice : (a b : List FieldDef) (p : Part (List FieldDef)) → with_fields a (with_fields b p) ≡ with_fields (a ++ b) p
with_twice a b (Ok x) = ap (λ (fields : List FieldDef). let out : List FieldDef × List ℕ = (fields, x.1) in Ok out) (sym (append_assoc a b x.0))
with_twice a b (Err e) = refl

pub fields_at-zero : (more depth : ℕ) (bytes : List ℕ) → fields_at more depth 0 bytes ≡ Ok ([], bytes)
unfolding fields_at
fields_at-zero zero depth bytes = refl
fields_at-zero (suc more) depth bytes = refl

pub fields_at-none : (depth count : ℕ) (bytes : List ℕ) → fields_at 0 depth (suc count) bytes ≡ Err Cut
unfolding fields_at
fields_at-none depth count bytes = refl

pub fields_at-suc : (more depth count : ℕ) (bytes : List ℕ) → fields_at (suc more) depth (suc count) bytes ≡ (field_at (fields_at more) depth bytes >>= λ first. with_fields first.0 (fields_at more depth count first.1))
unfolding fields_at
fields_at-suc more depth count bytes = refl

-- Some fields are read, and this many are left.
pub record Going (depth count : ℕ) (bytes : List ℕ) (before : List FieldDef) (left : ℕ) (rest : List ℕ) (now : List FieldDef) : Type 0 where
  pub fields : List FieldDef
  pub added : now ≡ before ++ fields
  pub shorter : length rest ≤ length bytes
  pub goes : (more : ℕ) → length bytes ≤ more → (less : ℕ) × (length rest ≤ less) × (fields_at more depth count bytes ≡ with_fields fields (fields_at less depth left rest))

pub going_start : (depth count : ℕ) (bytes : List ℕ) (before : List FieldDef) → Going depth count bytes before count bytes before
going_start depth count bytes before =
    record {
      fields = [];
      added = sym (append-nil before);
      shorter = omega arith;
      goes = λ more enough. (more, enough, with_none (fields_at more depth count bytes));
    }

one_more : (depth left less : ℕ) (rest next : List ℕ) (fields added : List FieldDef) → length next < length rest → length rest ≤ less → ((more : ℕ) → length rest ≤ suc more → field_at (fields_at more) depth rest ≡ Ok (added, next)) → (fewer : ℕ) × (length next ≤ fewer) × (with_fields fields (fields_at less depth (suc left) rest) ≡ with_fields (fields ++ added) (fields_at fewer depth left next))
one_more depth left zero rest next fields added shorter enough read = absurd (omega arith)
one_more depth left (suc less) rest next fields added shorter enough read = (
  less,
  omega arith,
  ap (with_fields fields) (fields_at-suc less depth left rest ∙ ap (λ (p : Part (List FieldDef)). p >>= λ first. with_fields first.0 (fields_at less depth left first.1)) (read less enough))
      ∙ with_twice fields added (fields_at less depth left next),
)

pub going_step : (depth count : ℕ) (bytes : List ℕ) (before : List FieldDef) (left : ℕ) (rest next : List ℕ) (now after : List FieldDef) → Going depth count bytes before (suc left) rest now → AddsField depth rest now next after → Going depth count bytes before left next after
going_step depth count bytes before left rest next now after going adds =
    record {
      fields = going.fields ++ adds.fields;
      added = adds.added ∙ ap (λ (fields : List FieldDef). fields ++ adds.fields) going.added ∙ append_assoc before going.fields adds.fields;
      shorter = omega (arith, going.shorter, adds.shorter);
      goes = λ more enough.
          let was = going.goes more enough in
          let step = one_more depth left was.0 rest next going.fields adds.fields adds.shorter was.1 adds.read in
          (step.0, step.1, was.2 ∙ step.2);
    }

pub going_end : (depth count : ℕ) (bytes : List ℕ) (before : List FieldDef) (rest : List ℕ) (now : List FieldDef) → Going depth count bytes before 0 rest now → AddsFields depth count bytes before rest now
going_end depth count bytes before rest now going =
    record {
      fields = going.fields;
      added = going.added;
      shorter = going.shorter;
      read = λ more enough.
          let was = going.goes more enough in
          was.2
          ∙ ap (with_fields going.fields) (fields_at-zero was.0 depth rest)
          ∙ ap (λ (fields : List FieldDef). let out : List FieldDef × List ℕ = (fields, rest) in Ok out) (append-nil going.fields);
    }

none_more : (depth left less : ℕ) (rest : List ℕ) (fields : List FieldDef) → length rest ≤ less → ((more : ℕ) → length rest ≤ suc more → IsErr (field_at (fields_at more) depth rest)) → IsErr (with_fields fields (fields_at less depth (suc left) rest))
none_more depth left zero rest fields enough fails = ap (λ (p : Part (List FieldDef)). is_err (with_fields fields p)) (fields_at-none depth left rest)
none_more depth left (suc less) rest fields enough fails =
    fails_with fields (fields_at (suc less) depth (suc left) rest)
    (subst (λ (p : Part (List FieldDef)). IsErr p) (sym (fields_at-suc less depth left rest))
    (fails_first (field_at (fields_at less) depth rest) (λ first. with_fields first.0 (fields_at less depth left first.1)) (fails less enough)))

pub going_fault : (depth count : ℕ) (bytes : List ℕ) (before : List FieldDef) (left : ℕ) (rest : List ℕ) (now : List FieldDef) → Going depth count bytes before (suc left) rest now → ((more : ℕ) → length rest ≤ suc more → IsErr (field_at (fields_at more) depth rest)) → (more : ℕ) → length bytes ≤ more → IsErr (fields_at more depth count bytes)
going_fault depth count bytes before left rest now going fails more enough =
    let was = going.goes more enough in
    subst (λ (p : Part (List FieldDef)). IsErr p) (sym was.2) (none_more depth left was.0 rest going.fields was.1 fails)

-- ---- one field

-- The fields inside one whose code is read.
abbrev pub within : (ℕ → ℕ → List ℕ → Part (List FieldDef)) → ℕ → List ℕ → Part (List FieldDef)
within fields depth rest = number_at w32 rest >>= λ count. fields (depth + 1) count.0 count.1

-- A field after the fields inside it.
abbrev pub named : ℕ → ℕ → Part (List FieldDef) → Part (List FieldDef)
named depth code inside =
    inside >>= λ inner. text_at inner.1 >>= λ name. Ok (record { depth = depth; code = code; name = name.0 } ∷ inner.0, name.1)

-- A field after its code.
abbrev pub coded : (ℕ → ℕ → List ℕ → Part (List FieldDef)) → ℕ → ℕ → List ℕ → Part (List FieldDef)
coded fields depth code rest =
    check (is_type_code code && nat_le depth READ_DEPTH) Wrong >>= λ known. named depth code (if_object (code == OBJECT_CODE) (within fields depth) rest)

pub field_coded : (fields : ℕ → ℕ → List ℕ → Part (List FieldDef)) (depth code : ℕ) (bytes rest : List ℕ) → number_at w32 bytes ≡ Ok (code, rest) → field_at fields depth bytes ≡ coded fields depth code rest
field_coded fields depth code bytes rest e =
    ap (λ (p : Part ℕ). p >>= λ read. coded fields depth read.0 read.1) e

-- The field is known, and not too deep.
pub coded_known : (fields : ℕ → ℕ → List ℕ → Part (List FieldDef)) (depth code : ℕ) (rest : List ℕ) → is_type_code code ≡ true → nat_le depth READ_DEPTH ≡ true → coded fields depth code rest ≡ named depth code (if_object (code == OBJECT_CODE) (within fields depth) rest)
coded_known fields depth code rest known deep =
    ap (λ (b : Bool). check (b && nat_le depth READ_DEPTH) Wrong >>= λ ok. named depth code (if_object (code == OBJECT_CODE) (within fields depth) rest)) known
    ∙ ap (λ (b : Bool). check b Wrong >>= λ ok. named depth code (if_object (code == OBJECT_CODE) (within fields depth) rest)) deep

-- It is unknown, or too deep.
pub coded_refused : (fields : ℕ → ℕ → List ℕ → Part (List FieldDef)) (depth code : ℕ) (rest : List ℕ) → (is_type_code code && nat_le depth READ_DEPTH) ≡ false → IsErr (coded fields depth code rest)
coded_refused fields depth code rest refused =
    ap (λ (b : Bool). is_err (check b Wrong >>= λ ok. named depth code (if_object (code == OBJECT_CODE) (within fields depth) rest))) refused

-- An object has fields inside it.
pub if_object-is : (code : ℕ) (fields : List ℕ → Part (List FieldDef)) (rest : List ℕ) → (code == OBJECT_CODE) ≡ true → if_object (code == OBJECT_CODE) fields rest ≡ fields rest
if_object-is code fields rest e = ap (λ (b : Bool). if_object b fields rest) e

-- Another field has none.
pub if_object-not : (code : ℕ) (fields : List ℕ → Part (List FieldDef)) (rest : List ℕ) → (code == OBJECT_CODE) ≡ false → if_object (code == OBJECT_CODE) fields rest ≡ Ok ([], rest)
if_object-not code fields rest e = ap (λ (b : Bool). if_object b fields rest) e

-- A field with what is inside it, and its name.
pub named_read : (depth code : ℕ) (inside : Part (List FieldDef)) (inner : List FieldDef) (rest next name : List ℕ) → inside ≡ Ok (inner, rest) → text_at rest ≡ Ok (name, next) → named depth code inside ≡ Ok (record { depth = depth; code = code; name = name } ∷ inner, next)
named_read depth code inside inner rest next name e t =
    ap (named depth code) e
    ∙ ap (λ (p : Part (List ℕ)). p >>= λ read. Ok (record { depth = depth; code = code; name = read.0 } ∷ inner, read.1)) t

pub named_fails : (depth code : ℕ) (inside : Part (List FieldDef)) (inner : List FieldDef) (rest : List ℕ) → inside ≡ Ok (inner, rest) → IsErr (text_at rest) → IsErr (named depth code inside)
named_fails depth code inside inner rest e t =
    subst (λ (p : Part (List FieldDef)). IsErr (named depth code p)) (sym e)
    (fails_first (text_at rest) (λ name. Ok (record { depth = depth; code = code; name = name.0 } ∷ inner, name.1)) t)

-- ---- lengths

-- Two fields that are the same have the same value, and the same bytes after it.
pub same_part : {E A : Type 0} (a b : A) (x y : List ℕ) → ◌≡◌ {A = Result (A × List ℕ) E} (Ok (a, x)) (Ok (b, y)) → (a ≡ b) × (x ≡ y)
same_part {E = E} {A = A} a b x y e =
    (ap (λ (r : Result (A × List ℕ) E). elim r [ Ok p ↦ p.0 | Err fault ↦ a ]) e, ap (λ (r : Result (A × List ℕ) E). elim r [ Ok p ↦ p.1 | Err fault ↦ x ]) e)

-- What is after this many bytes.
behind-shorter : (short : Bool) (value n k : ℕ) (bytes rest : List ℕ) → short ≡ nat_lt (length bytes) k → 0 < k → or_else_fault (cond short (Err Short) (let out : ℕ × List ℕ = (value, drop k bytes) in Ok out)) Cut ≡ Ok (n, rest) → length rest < length bytes
behind-shorter true value n k bytes rest is some e = absurd (cc)
behind-shorter false value n k bytes rest is some e =
    let after : drop k bytes ≡ rest = (same_part value n (drop k bytes) rest e).1 in
    omega (arith, ltb-false (length bytes) k (sym is), length-drop k bytes, ap length (sym after))

-- A number takes at least one byte.
pub number-shorter : (w : Width) (bytes rest : List ℕ) (n : ℕ) → 0 < byte_len w → number_at w bytes ≡ Ok (n, rest) → length rest < length bytes
unfolding number_at
number-shorter w bytes rest n some e =
    behind-shorter (nat_lt (length bytes) (byte_len w)) _ n (byte_len w) bytes rest refl some e

-- A value is that of the field before.
pub value_kept : {A : Type 0} (field : Field A) (x : A × List ℕ) → or_else_fault field Cut ≡ Ok x → field ≡ Ok x
value_kept (Ok y) x e = let same : y ≡ x = cc in ap Ok same
value_kept (Err fault) x e = absurd (cc)

-- A text in the middle: the unit before it.
unit-shorter : (unit : ℕ) (later : Field (List ℕ)) (bytes rest units : List ℕ) → with_unit unit later ≡ Ok (units, rest) → ((us r : List ℕ) → later ≡ Ok (us, r) → length r ≤ length bytes) → length rest ≤ length bytes
unit-shorter unit (Ok later) bytes rest units e below =
    let same : later.1 ≡ rest = (same_part (unit ∷ later.0) units later.1 rest e).1 in
    omega (arith, below later.0 later.1 refl, ap length same)
unit-shorter unit (Err fault) bytes rest units e below = absurd (cc)

text_z-shorter : (bytes rest units : List ℕ) → text_z_at bytes ≡ Ok (units, rest) → length rest ≤ length bytes
unfolding text_z_at
text_z-shorter [] rest units e = absurd (cc)
text_z-shorter (b ∷ []) rest units e = absurd (cc)
text_z-shorter (low ∷ high ∷ bytes) rest units e =
    elim (cases_Bool (low + 256 * high == 0)) [
      | inl ends ↦
          let after : bytes ≡ rest = (same_part [] units bytes rest (rw ends at e)).1 in
          omega (arith, ap length (sym after))
      | inr some ↦
          let shorter = unit-shorter (low + 256 * high) (text_z_at bytes) bytes rest units (rw some at e) (λ us r is. text_z-shorter bytes r us is) in
          omega (arith, shorter)
    ]

-- A text leaves no more bytes than there were.
pub text-shorter : (bytes rest units : List ℕ) → text_at bytes ≡ Ok (units, rest) → length rest ≤ length bytes
unfolding text_at
text-shorter bytes rest units e = text_z-shorter bytes rest units (value_kept (text_z_at bytes) (units, rest) e)

-- ---- one field, as it is read

-- The fields inside one are read, and added after it.
pub record Holds (depth code : ℕ) (bytes : List ℕ) (before : List FieldDef) (rest : List ℕ) (now : List FieldDef) : Type 0 where
  pub inner : List FieldDef
  pub added : now ≡ before ++ inner
  pub shorter : length rest ≤ length bytes
  pub read : (more : ℕ) → length bytes ≤ more → if_object (code == OBJECT_CODE) (within (fields_at more) depth) bytes ≡ Ok (inner, rest)

pub holds_none : (depth code : ℕ) (bytes : List ℕ) (before : List FieldDef) → (code == OBJECT_CODE) ≡ false → Holds depth code bytes before bytes before
holds_none depth code bytes before other =
    record {
      inner = [];
      added = sym (append-nil before);
      shorter = omega arith;
      read = λ more enough. if_object-not code (within (fields_at more) depth) bytes other;
    }

within_read : (fields : ℕ → ℕ → List ℕ → Part (List FieldDef)) (depth count : ℕ) (bytes next : List ℕ) → number_at w32 bytes ≡ Ok (count, next) → within fields depth bytes ≡ fields (depth + 1) count next
within_read fields depth count bytes next e =
    ap (λ (p : Part ℕ). p >>= λ read. fields (depth + 1) read.0 read.1) e

pub holds_object : (depth code count : ℕ) (bytes next : List ℕ) (before : List FieldDef) (rest : List ℕ) (now : List FieldDef) → (code == OBJECT_CODE) ≡ true → number_at w32 bytes ≡ Ok (count, next) → AddsFields (depth + 1) count next before rest now → Holds depth code bytes before rest now
holds_object depth code count bytes next before rest now object counted adds =
    let short = number-shorter w32 bytes next count (omega arith) counted in
    record {
      inner = adds.fields;
      added = adds.added;
      shorter = omega (arith, short, adds.shorter);
      read = λ more enough.
          if_object-is code (within (fields_at more) depth) bytes object
          ∙ within_read (fields_at more) depth count bytes next counted
          ∙ adds.read more (omega (arith, short, enough));
    }

-- The place of a field that is named last.
named_place : (before inner : List FieldDef) (first field : FieldDef) → set (before ++ first ∷ inner) (length before) field ≡ before ++ field ∷ inner
named_place [] inner first field = refl
named_place (f ∷ before) inner first field = ap (λ (fields : List FieldDef). f ∷ fields) (named_place before inner first field)

first_place : (before inner : List FieldDef) (first other : FieldDef) → get_or (before ++ first ∷ inner) (length before) other ≡ first
first_place [] inner first other = refl
first_place (f ∷ before) inner first other = first_place before inner first other

-- A whole field.
pub field_adds : (depth code known : ℕ) (bytes coded_rest : List ℕ) (before : List FieldDef) (rest next name : List ℕ) (pushed now : List FieldDef) (place : ℕ) (first was : FieldDef)
    → number_at w32 bytes ≡ Ok (code, coded_rest) → known ≡ code → is_type_code code ≡ true → depth ≤ READ_DEPTH
    → pushed ≡ before ++ first ∷ [] → first.depth ≡ depth → first.code ≡ known → place ≡ length before
    → Holds depth known coded_rest pushed rest now → text_at rest ≡ Ok (name, next) → was ≡ get_or now place was
    → AddsField depth bytes before next (set now place (record { depth = was.depth; code = was.code; name = name }))
field_adds depth code known bytes coded_rest before rest next name pushed now place first was e is typed deep put d c at holds named-is found =
    let whole : now ≡ before ++ first ∷ holds.inner = holds.added ∙ ap (λ (fields : List FieldDef). fields ++ holds.inner) put ∙ append_assoc before (first ∷ []) holds.inner in
    let here : was ≡ first = found ∙ ap (λ (fields : List FieldDef). get_or fields place was) whole ∙ ap (λ (n : ℕ). get_or (before ++ first ∷ holds.inner) n was) at ∙ first_place before holds.inner first was in
    let field : FieldDef = record { depth = was.depth; code = was.code; name = name } in
    let depth-is : was.depth ≡ depth = ap (λ (f : FieldDef). f.depth) here ∙ d in
    let code-is : was.code ≡ known = ap (λ (f : FieldDef). f.code) here ∙ c in
    let short = number-shorter w32 bytes coded_rest code (omega arith) e in
    let text = text-shorter rest next name named-is in
    record {
      fields = field ∷ holds.inner;
      added = ap (λ (fields : List FieldDef). set fields place field) whole ∙ ap (λ (n : ℕ). set (before ++ first ∷ holds.inner) n field) at ∙ named_place before holds.inner first field;
      shorter = omega (arith, short, text, holds.shorter);
      read = λ more enough.
          field_coded (fields_at more) depth code bytes coded_rest e
          ∙ coded_known (fields_at more) depth code coded_rest typed (le-leb depth READ_DEPTH deep)
          ∙ named_read depth code (if_object (code == OBJECT_CODE) (within (fields_at more) depth) coded_rest) holds.inner rest next name
          (ap (λ (n : ℕ). if_object (n == OBJECT_CODE) (within (fields_at more) depth) coded_rest) (sym is) ∙ holds.read more (omega (arith, short, enough)))
          named-is
          ∙ same-field depth code was name holds.inner next depth-is (code-is ∙ is);
    }
  where
    same-field : (depth code : ℕ) (was : FieldDef) (name : List ℕ) (inner : List FieldDef) (next : List ℕ) → was.depth ≡ depth → was.code ≡ code → ◌≡◌ {A = Part (List FieldDef)} (Ok (record { depth = depth; code = code; name = name } ∷ inner, next)) (Ok (record { depth = was.depth; code = was.code; name = name } ∷ inner, next))
    same-field depth code was name inner next p q = rw (p, q) refl

-- Reading ends at the code.
pub stops_at_code : (stop : Stop) (depth : ℕ) (bytes : List ℕ) (before : List FieldDef) (rest : List ℕ) (after : List FieldDef) → (stop ≡ BadMeta → (more : ℕ) → IsErr (field_at (fields_at more) depth bytes)) → AnswersField depth bytes before (Err stop) rest after
stops_at_code BadMeta depth bytes before rest after fails = λ more enough. fails refl more
stops_at_code OutOfMemory depth bytes before rest after fails = tt

-- Reading ends among the fields inside one.
pub stops_inside : (stop : Stop) (depth code known count : ℕ) (bytes coded_rest next : List ℕ) (before : List FieldDef) (rest : List ℕ) (after inner_before inner_after : List FieldDef) (inner_rest : List ℕ)
    → number_at w32 bytes ≡ Ok (code, coded_rest) → known ≡ code → is_type_code code ≡ true → depth ≤ READ_DEPTH → (known == OBJECT_CODE) ≡ true
    → number_at w32 coded_rest ≡ Ok (count, next) → AnswersFields (depth + 1) count next inner_before (Err stop) inner_rest inner_after
    → AnswersField depth bytes before (Err stop) rest after
stops_inside BadMeta depth code known count bytes coded_rest next before rest after inner_before inner_after inner_rest e is typed deep object counted fails = λ more enough.
    let first = number-shorter w32 bytes coded_rest code (omega arith) e in
    let second = number-shorter w32 coded_rest next count (omega arith) counted in
    let whole : field_at (fields_at more) depth bytes ≡ named depth code (if_object (code == OBJECT_CODE) (within (fields_at more) depth) coded_rest) = field_coded (fields_at more) depth code bytes coded_rest e ∙ coded_known (fields_at more) depth code coded_rest typed (le-leb depth READ_DEPTH deep) in
    let inside : if_object (code == OBJECT_CODE) (within (fields_at more) depth) coded_rest ≡ fields_at more (depth + 1) count next =
    ap (λ (n : ℕ). if_object (n == OBJECT_CODE) (within (fields_at more) depth) coded_rest) (sym is)
    ∙ if_object-is known (within (fields_at more) depth) coded_rest object
    ∙ within_read (fields_at more) depth count coded_rest next counted in
    subst (λ (p : Part (List FieldDef)). IsErr p) (sym (whole ∙ ap (named depth code) inside))
    (fails_first (fields_at more (depth + 1) count next) (λ inner. text_at inner.1 >>= λ name. Ok (record { depth = depth; code = code; name = name.0 } ∷ inner.0, name.1)) (fails more (omega (arith, first, second, enough))))
stops_inside OutOfMemory depth code known count bytes coded_rest next before rest after inner_before inner_after inner_rest e is typed deep object counted fails = tt

-- Reading ends at the name.
pub stops_at_name : (stop : Stop) (depth code known : ℕ) (bytes coded_rest : List ℕ) (before : List FieldDef) (rest end : List ℕ) (pushed now after : List FieldDef)
    → number_at w32 bytes ≡ Ok (code, coded_rest) → known ≡ code → is_type_code code ≡ true → depth ≤ READ_DEPTH
    → Holds depth known coded_rest pushed rest now → (stop ≡ BadMeta → IsErr (text_at rest))
    → AnswersField depth bytes before (Err stop) end after
stops_at_name BadMeta depth code known bytes coded_rest before rest end pushed now after e is typed deep holds fails = λ more enough.
    let short = number-shorter w32 bytes coded_rest code (omega arith) e in
    subst (λ (p : Part (List FieldDef)). IsErr p) (sym (field_coded (fields_at more) depth code bytes coded_rest e ∙ coded_known (fields_at more) depth code coded_rest typed (le-leb depth READ_DEPTH deep)))
    (named_fails depth code (if_object (code == OBJECT_CODE) (within (fields_at more) depth) coded_rest) holds.inner rest
    (ap (λ (n : ℕ). if_object (n == OBJECT_CODE) (within (fields_at more) depth) coded_rest) (sym is) ∙ holds.read more (omega (arith, short, enough)))
    (fails refl))
stops_at_name OutOfMemory depth code known bytes coded_rest before rest end pushed now after e is typed deep holds fails = tt

-- Reading ends among the fields.
pub stops_among : (stop : Stop) (depth count : ℕ) (bytes : List ℕ) (before : List FieldDef) (left : ℕ) (rest : List ℕ) (now : List FieldDef) (next : List ℕ) (after : List FieldDef) (end : List ℕ) (all : List FieldDef)
    → Going depth count bytes before (suc left) rest now → AnswersField depth rest now (Err stop) next after → AnswersFields depth count bytes before (Err stop) end all
stops_among BadMeta depth count bytes before left rest now next after end all going fails =
    going_fault depth count bytes before left rest now going fails
stops_among OutOfMemory depth count bytes before left rest now next after end all going fails = tt

-- What a step that ends early says, if it ends at bad bytes.
pub bad_part : {A : Type 0} (part : Part A) (stop : Stop) (rest : List ℕ) → Answers part (Err stop) rest → stop ≡ BadMeta → IsErr part
bad_part part BadMeta rest h e = h
bad_part part OutOfMemory rest h e = absurd (cc)

-- A step ends early as an earlier one does.
pub ends_early : {A : Type 0} (part : Part A) (stop : Stop) (rest : List ℕ) → (stop ≡ BadMeta → IsErr part) → Answers part (Err stop) rest
ends_early part BadMeta rest h = h refl
ends_early part OutOfMemory rest h = tt

-- What bad fields say, read by the bytes that are left.
pub bad_fields : (stop : Stop) (depth count : ℕ) (bytes : List ℕ) (before : List FieldDef) (rest : List ℕ) (after : List FieldDef) → AnswersFields depth count bytes before (Err stop) rest after → stop ≡ BadMeta → IsErr (fields_at (length bytes) depth count bytes)
bad_fields BadMeta depth count bytes before rest after fails e = fails (length bytes) (omega arith)
bad_fields OutOfMemory depth count bytes before rest after fails e = absurd (cc)
