-- A payload is read back as its definition.
use Rattle.std.proofs.Common.{◌≡◌, ℕ, zero, suc, ◌+◌, ◌^◌, ◌<◌, ◌≤◌, Bool, true, false, inl, inr, Ok, List, [], ◌∷◌, ◌++◌, length, take, drop, refl, sym, ap, subst, ◌∙◌, append_assoc, arith, length-append}
use Rattle.std.specs.Prelude.{◌&&◌, ◌||◌, nat_le, nat_lt, ◌==◌, take_while, count_by, if◌then◌else◌}
use Rattle.std.specs.Int.{w32, w64, is_in_range}
use Rattle.std.specs.List.{AllByRecursion, list_all, prefix_len}
use Rattle.std.proofs.lemmas.Bool.{cases_Bool, and_from, and_parts, eq-eqb, le-leb, leb-true, ltb-true, ltb-false, eqb-true}
use Rattle.std.proofs.lemmas.List.{take-append-drop}
use Rattle.ep_defs.specs.declared.event.TheConstants.{OBJECT_CODE, FIRST_CODE, LAST_CODE}
use Rattle.ep_defs.specs.declared.event.FieldDef.{FieldDef}
use Rattle.ep_defs.specs.declared.event.EventDef.{EventDef}
use Rattle.ep_defs.specs.Event.{is_type_code, are_nested, deepest_after}
use Rattle.pt_num.specs.Numbers.{fixed}
use Rattle.pt_num.specs.Texts.{text_z, are_units}
use Rattle.pt_num.specs.Steps.{◌>>=◌, check}
use Rattle.nt_meta.specs.declared.limits.TheConstants.{LAST_ID, READ_DEPTH}
use Rattle.nt_meta.specs.Meta.{inside, after, inside_count, inside_counts, fields_bytes, outermost_count, is_readable_field, FitsPayload, IsMeta}
use Rattle.nt_meta.specs.Reading.{Part, Wrong, number_at, if_object, field_at, with_fields, fields_at, def_at, meta_at}
use Rattle.nt_meta.specs.state.Fields.{inside_bytes}
use Rattle.pt_num.proofs.Lengths.{length-fixed32}
use Rattle.pt_num.proofs.Joined.{four_grouped}
use Rattle.nt_meta.proofs.PutFields.{after_is, fields_bytes-cons, list_all-take, list_all-drop}
use Rattle.nt_meta.proofs.FieldSteps.{fields_at-zero, fields_at-suc, field_coded, coded_known}
use Rattle.nt_meta.proofs.FieldSteps.{within as inner_at, named as field_named}
use Rattle.nt_meta.proofs.Forests.{FailsFirst, Forest, take_while-cons, take_while-stops, take_while-append, nested-weaker, count-append, count-cons, count-none}
use Rattle.nt_meta.proofs.Payloads.{def_bytes, nine_grouped}
use Rattle.nt_meta.proofs.Spelled.{number-read-32, number-read-64, text-read}

-- ---- the fields inside one, and those after them

-- They are all that stand behind it.
split_is : (field : FieldDef) (fields : List FieldDef) → inside field fields ++ after field fields ≡ fields
split_is field fields =
    ap (λ (back : List FieldDef). inside field fields ++ back) (sym (after_is field fields)) ∙ take-append-drop (prefix_len (λ (f : FieldDef). nat_lt field.depth f.depth) fields) fields

-- Those inside are deeper.
inside-deep : (depth : ℕ) (fields : List FieldDef) → AllByRecursion (λ f. depth + 1 ≤ f.depth) (take_while (λ f. nat_lt depth f.depth) fields)
inside-deep depth [] = tt
inside-deep depth (f ∷ fields) =
    elim (cases_Bool (nat_lt depth f.depth)) [
      | inl passes ↦
          let deeper : depth + 1 ≤ f.depth = next f.depth (ltb-true depth f.depth passes) in
          subst (λ (fs : List FieldDef). AllByRecursion (λ (g : FieldDef). depth + 1 ≤ g.depth) fs) (sym (take_while-cons (λ (g : FieldDef). nat_lt depth g.depth) f fields passes)) (deeper, inside-deep depth fields)
      | inr other ↦
          subst (λ (fs : List FieldDef). AllByRecursion (λ (g : FieldDef). depth + 1 ≤ g.depth) fs) (sym (take_while-stops (λ (g : FieldDef). nat_lt depth g.depth) f fields other)) tt
    ]
  where
    next : (n : ℕ) → depth < n → depth + 1 ≤ n
    next n h = omega arith

-- The first of those after is not.
after-fails : {A : Type 0} (p : A → Bool) (xs : List A) → FailsFirst p (drop (length (take_while p xs)) xs)
after-fails p [] = tt
after-fails {A} p (x ∷ xs) =
    elim (cases_Bool (p x)) [
      | inl passes ↦ subst (λ (front : List A). FailsFirst p (drop (length front) (x ∷ xs))) (sym (take_while-cons p x xs passes)) (after-fails p xs)
      | inr other ↦ subst (λ (front : List A). FailsFirst p (drop (length front) (x ∷ xs))) (sym (take_while-stops p x xs other)) other
    ]

-- What holds of all holds of the last ones.
all-drop : {A : Type 0} (P : A → Type 0) (n : ℕ) (xs : List A) → AllByRecursion P xs → AllByRecursion P (drop n xs)
all-drop P zero xs h = h
all-drop P (suc n) [] h = tt
all-drop P (suc n) (x ∷ xs) h = all-drop P n xs h.1

-- The first fields stand as they may.
nested-take : (deepest n : ℕ) (fields : List FieldDef) → are_nested deepest fields ≡ true → are_nested deepest (take n fields) ≡ true
nested-take deepest zero fields h = refl
nested-take deepest (suc n) [] h = refl
nested-take deepest (suc n) (f ∷ fields) h =
    let parts = and_parts (nat_le f.depth deepest) (are_nested (deepest_after f) fields) h in
    and_from (nat_le f.depth deepest) (are_nested (deepest_after f) (take n fields)) parts.0 (nested-take (deepest_after f) n fields parts.1)

-- So do the last ones, of which the first is no deeper than this.
nested-drop : (depth deepest n : ℕ) (fields : List FieldDef) → are_nested deepest fields ≡ true → FailsFirst (λ f. nat_lt depth f.depth) (drop n fields) → are_nested depth (drop n fields) ≡ true
nested-drop depth deepest zero [] h fails = refl
nested-drop depth deepest (suc n) [] h fails = refl
nested-drop depth deepest zero (f ∷ fields) h fails =
    let parts = and_parts (nat_le f.depth deepest) (are_nested (deepest_after f) fields) h in
    and_from (nat_le f.depth depth) (are_nested (deepest_after f) fields) (le-leb f.depth depth (ltb-false depth f.depth fails)) parts.1
nested-drop depth deepest (suc n) (f ∷ fields) h fails =
    let parts = and_parts (nat_le f.depth deepest) (are_nested (deepest_after f) fields) h in
    nested-drop depth (deepest_after f) n fields parts.1 fails

-- How many fields stand in each of the last ones.
counts-drop : (n : ℕ) (fields : List FieldDef) → AllByRecursion (λ m. m < 2 ^ 32) (inside_counts fields) → AllByRecursion (λ m. m < 2 ^ 32) (inside_counts (drop n fields))
counts-drop zero fields h = h
counts-drop (suc n) [] h = tt
counts-drop (suc n) (f ∷ fields) h = counts-drop n fields h.1

-- The first of some fields is no deeper than any that is deeper than this.
fails-deeper : (depth : ℕ) (f : FieldDef) (fields : List FieldDef) → depth + 1 ≤ f.depth → FailsFirst (λ g. nat_lt depth g.depth) fields → FailsFirst (λ g. nat_lt f.depth g.depth) fields
fails-deeper depth f [] deeper fails = tt
fails-deeper depth f (g ∷ fields) deeper fails = not_less f.depth g.depth (omega (arith, deeper, ltb-false depth g.depth fails))
  where
    not_less : (a b : ℕ) → b ≤ a → nat_lt a b ≡ false
    not_less a b h = elim (cases_Bool (nat_lt a b)) [ inl less ↦ absurd (apart a b h (ltb-true a b less)) | inr other ↦ other ]
      where
        apart : (a b : ℕ) → b ≤ a → a < b → ⊥
        apart a b h less = omega arith

-- How many fields stand in each of the first ones, which are deeper than the next.
counts-front : (depth : ℕ) (a b : List FieldDef) → AllByRecursion (λ f. depth + 1 ≤ f.depth) a → FailsFirst (λ f. nat_lt depth f.depth) b → AllByRecursion (λ m. m < 2 ^ 32) (inside_counts (a ++ b)) → AllByRecursion (λ m. m < 2 ^ 32) (inside_counts a)
counts-front depth [] b deep fails h = tt
counts-front depth (f ∷ a) b deep fails h =
    let same : inside f (a ++ b) ≡ inside f a = take_while-append (λ (g : FieldDef). nat_lt f.depth g.depth) a b (fails-deeper depth f b deep.0 fails) in
    (subst (λ (fields : List FieldDef). count_by (λ (g : FieldDef). g.depth == f.depth + 1) fields < 2 ^ 32) same h.0, counts-front depth a b deep.1 fails h.1)

-- A forest by its first field, those inside it and those after it.
record Split (depth count : ℕ) (field : FieldDef) (fields : List FieldDef) : Type 0 where
  pub at_depth : field.depth ≡ depth
  pub good : is_readable_field field ≡ true
  pub fits : inside_count field fields < 2 ^ 32
  pub inner : Forest (depth + 1) (inside_count field fields) (inside field fields)
  pub within : are_nested (deepest_after field) (inside field fields) ≡ true
  pub left : ℕ
  pub counted : count ≡ suc left
  pub others : Forest depth left (after field fields)

-- A field stands no more than one deeper than the one before it.
deepest-low : (f : FieldDef) → deepest_after f ≤ f.depth + 1
deepest-low f = elim (cases_Bool (f.code == OBJECT_CODE)) [ inl object ↦ rw object (omega arith) | inr other ↦ rw other (omega arith) ]

-- At the field's own depth.
split_here : (count : ℕ) (field : FieldDef) (fields : List FieldDef) → Forest field.depth count (field ∷ fields) → Split field.depth count field fields
split_here count field fields forest =
    let p : FieldDef → Bool = λ f. nat_lt field.depth f.depth in
    let n : ℕ = prefix_len p fields in
    let m : ℕ = length (inside field fields) in
    let readable = and_parts (is_readable_field field) (list_all is_readable_field fields) forest.readable in
    let nested = and_parts (nat_le field.depth field.depth) (are_nested (deepest_after field) fields) forest.nested in
    let within : are_nested (deepest_after field) (inside field fields) ≡ true = nested-take (deepest_after field) n fields nested.1 in
    let deep = inside-deep field.depth fields in
    let fails = after-fails p fields in
    let whole = split_is field fields in
    let both : AllByRecursion (λ m. m < 2 ^ 32) (inside_counts (inside field fields ++ after field fields)) = subst (λ (fs : List FieldDef). AllByRecursion (λ (m : ℕ). m < 2 ^ 32) (inside_counts fs)) (sym whole) forest.counts.1 in
    let here : FieldDef → Bool = λ f. f.depth == field.depth in
    let later : count_by here fields ≡ count_by here (after field fields) =
    ap (λ (fs : List FieldDef). count_by here fs) (sym whole)
    ∙ count-append here (inside field fields) (after field fields)
    ∙ ap (λ (k : ℕ). k + count_by here (after field fields)) (count-none field.depth (inside field fields) deep)
    ∙ none-more (count_by here (after field fields)) in
    record {
      at_depth = refl;
      good = readable.0;
      fits = forest.counts.0;
      inner = record {
        readable = list_all-take is_readable_field n fields readable.1;
        deep = deep;
        nested = nested-weaker (deepest_after field) (field.depth + 1) (inside field fields) (deepest-low field) within;
        counts = counts-front field.depth (inside field fields) (after field fields) deep fails both;
        count_is = refl;
      };
      within = within;
      left = count_by here (after field fields);
      counted = sym forest.count_is ∙ count-cons here field fields (eq-eqb field.depth field.depth refl) ∙ ap suc later;
      others = record {
        readable = list_all-drop is_readable_field m fields readable.1;
        deep = all-drop (λ (f : FieldDef). field.depth ≤ f.depth) m fields forest.deep.1;
        nested = nested-drop field.depth (deepest_after field) m fields nested.1 fails;
        counts = counts-drop m fields forest.counts.1;
        count_is = refl;
      };
    }
  where
    none-more : (k : ℕ) → 0 + k ≡ k
    none-more k = omega arith

-- The first field of a forest stands at its depth.
first-depth : (depth count : ℕ) (field : FieldDef) (fields : List FieldDef) → Forest depth count (field ∷ fields) → field.depth ≡ depth
first-depth depth count field fields forest =
    let low : depth ≤ field.depth = forest.deep.0 in
    let high = leb-true field.depth depth (and_parts (nat_le field.depth depth) (are_nested (deepest_after field) fields) forest.nested).0 in
    omega (arith, low, high)

forest_split : (depth count : ℕ) (field : FieldDef) (fields : List FieldDef) → Forest depth count (field ∷ fields) → Split depth count field fields
forest_split depth count field fields forest =
    let e = first-depth depth count field fields forest in
    subst (λ (d : ℕ). Split d count field fields) e (split_here count field fields (subst (λ (d : ℕ). Forest d count (field ∷ fields)) (sym e) forest))

-- A field that is no object has none inside it.
none_inside : (field : FieldDef) (inner : List FieldDef) → (field.code == OBJECT_CODE) ≡ false → are_nested (deepest_after field) inner ≡ true → AllByRecursion (λ f. field.depth + 1 ≤ f.depth) inner → inner ≡ []
none_inside field [] plain nested deep = refl
none_inside field (f ∷ inner) plain nested deep =
    let first = leb-true f.depth (deepest_after field) (and_parts (nat_le f.depth (deepest_after field)) (are_nested (deepest_after f) inner) nested).0 in
    let own : deepest_after field ≡ field.depth = ap (λ (b : Bool). if b then field.depth + 1 else field.depth) plain in
    absurd (apart field.depth f.depth (deepest_after field) deep.0 first own)
  where
    apart : (a b d : ℕ) → a + 1 ≤ b → b ≤ d → d ≡ a → ⊥
    apart a b d low high e = omega arith

-- ---- fields are read back

-- A type code is small.
small_code : (code : ℕ) → is_type_code code ≡ true → code < 2 ^ 32
small_code code known =
    elim (cases_Bool (code == OBJECT_CODE)) [
      | inl object ↦ let is : code ≡ 1 = eqb-true code OBJECT_CODE object in omega (arith, is)
      | inr other ↦
          let range : is_in_range FIRST_CODE LAST_CODE code ≡ true = sym (ap (λ (b : Bool). b || is_in_range FIRST_CODE LAST_CODE code) other) ∙ known in
          let high = leb-true code LAST_CODE (and_parts (nat_le FIRST_CODE code) (nat_le code LAST_CODE) range).1 in
          omega (arith, high)
    ]

-- What an object has inside it is read, and what another field has, which is nothing.
inside_back : (fields : ℕ → ℕ → List ℕ → Part (List FieldDef)) (field : FieldDef) (inner : List FieldDef) (rest : List ℕ) (object : Bool) → (field.code == OBJECT_CODE) ≡ object → count_by (λ f. f.depth == field.depth + 1) inner < 2 ^ 32 → fields (field.depth + 1) (count_by (λ f. f.depth == field.depth + 1) inner) (fields_bytes (length inner) inner ++ rest) ≡ Ok (inner, rest) → (object ≡ false → inner ≡ []) → if_object (field.code == OBJECT_CODE) (inner_at fields field.depth) (inside_bytes field inner ++ rest) ≡ Ok (inner, rest)
inside_back fields field inner rest true is fits read none =
    let n : ℕ = count_by (λ f. f.depth == field.depth + 1) inner in
    let bytes : List ℕ = fields_bytes (length inner) inner in
    let read_all : inner_at fields field.depth ((fixed w32 n ++ bytes) ++ rest) ≡ Ok (inner, rest) =
    ap (inner_at fields field.depth) (append_assoc (fixed w32 n) bytes rest)
    ∙ ap (λ (p : Part ℕ). p >>= λ count. fields (field.depth + 1) count.0 count.1) (number-read-32 n (bytes ++ rest) fits)
    ∙ read in
    subst (λ (b : Bool). if_object b (inner_at fields field.depth) ((if b then fixed w32 n ++ bytes else []) ++ rest) ≡ Ok (inner, rest)) (sym is) read_all
inside_back fields field inner rest false is fits read none =
    let n : ℕ = count_by (λ f. f.depth == field.depth + 1) inner in
    let bytes : List ℕ = fields_bytes (length inner) inner in
    let nothing : if_object false (inner_at fields field.depth) rest ≡ Ok (inner, rest) = ap (λ (fs : List FieldDef). let out : List FieldDef × List ℕ = (fs, rest) in Ok out) (sym (none refl)) in
    subst (λ (b : Bool). if_object b (inner_at fields field.depth) ((if b then fixed w32 n ++ bytes else []) ++ rest) ≡ Ok (inner, rest)) (sym is) nothing

-- A field is read, with those inside it.
field_back : (fields : ℕ → ℕ → List ℕ → Part (List FieldDef)) (field : FieldDef) (inner : List FieldDef) (rest : List ℕ) → is_readable_field field ≡ true → if_object (field.code == OBJECT_CODE) (inner_at fields field.depth) (inside_bytes field inner ++ (text_z field.name ++ rest)) ≡ Ok (inner, text_z field.name ++ rest) → field_at fields field.depth (fixed w32 field.code ++ (inside_bytes field inner ++ (text_z field.name ++ rest))) ≡ Ok (field ∷ inner, rest)
field_back fields field inner rest good read =
    let deep = and_parts (is_type_code field.code && are_units field.name) (nat_le field.depth READ_DEPTH) good in
    let known = and_parts (is_type_code field.code) (are_units field.name) deep.0 in
    let later : List ℕ = inside_bytes field inner ++ (text_z field.name ++ rest) in
    field_coded fields field.depth field.code (fixed w32 field.code ++ later) later (number-read-32 field.code later (small_code field.code known.0))
    ∙ coded_known fields field.depth field.code later known.0 deep.1
    ∙ ap (field_named field.depth field.code) read
    ∙ ap (λ (p : Part (List ℕ)). p >>= λ name. Ok (record { depth = field.depth; code = field.code; name = name.0 } ∷ inner, name.1)) (text-read field.name rest known.1)

-- The first field of some is read.
first_back : (fields : ℕ → ℕ → List ℕ → Part (List FieldDef)) (depth count : ℕ) (field : FieldDef) (later : List FieldDef) (rest : List ℕ) → Split depth count field later → fields (depth + 1) (inside_count field later) (fields_bytes (length (inside field later)) (inside field later) ++ (text_z field.name ++ rest)) ≡ Ok (inside field later, text_z field.name ++ rest) → field_at fields depth (fixed w32 field.code ++ (inside_bytes field (inside field later) ++ (text_z field.name ++ rest))) ≡ Ok (field ∷ inside field later, rest)
first_back fields depth count field later rest split read =
    let own = subst (λ (d : ℕ). fields (d + 1) (inside_count field later) (fields_bytes (length (inside field later)) (inside field later) ++ (text_z field.name ++ rest)) ≡ Ok (inside field later, text_z field.name ++ rest)) (sym split.at_depth) read in
    let none : (field.code == OBJECT_CODE) ≡ false → inside field later ≡ [] = λ plain. none_inside field (inside field later) plain split.within (subst (λ (d : ℕ). AllByRecursion (λ f. d + 1 ≤ f.depth) (inside field later)) (sym split.at_depth) split.inner.deep) in
    let inner = inside_back fields field (inside field later) (text_z field.name ++ rest) (field.code == OBJECT_CODE) refl split.fits own none in
    subst (λ (d : ℕ). field_at fields d (fixed w32 field.code ++ (inside_bytes field (inside field later) ++ (text_z field.name ++ rest))) ≡ Ok (field ∷ inside field later, rest)) split.at_depth
    (field_back fields field (inside field later) rest split.good inner)

-- The fields inside one and those after it are as many as stand behind it.
split-len : (field : FieldDef) (fields : List FieldDef) → length (inside field fields) + length (after field fields) ≡ length fields
split-len field fields = sym (length-append (inside field fields) (after field fields)) ∙ ap (λ (fs : List FieldDef). length fs) (split_is field fields)

-- So many fields of a depth are read.
forest_back : (more depth count : ℕ) (fields : List FieldDef) (rest : List ℕ) → Forest depth count fields → length fields ≤ more → fields_at more depth count (fields_bytes (length fields) fields ++ rest) ≡ Ok (fields, rest)
forest_back more depth count [] rest forest few =
    subst (λ (n : ℕ). fields_at more depth n rest ≡ Ok ([], rest)) forest.count_is (fields_at-zero more depth rest)
forest_back zero depth count (field ∷ fields) rest forest few = absurd (omega arith)
forest_back (suc more) depth count (field ∷ fields) rest forest few =
    let split = forest_split depth count field fields forest in
    let inner : List FieldDef = inside field fields in
    let others : List FieldDef = after field fields in
    let lengths = split-len field fields in
    let behind : List ℕ = fields_bytes (length others) others ++ rest in
    let bytes : fields_bytes (length (field ∷ fields)) (field ∷ fields) ++ rest ≡ fixed w32 field.code ++ (inside_bytes field inner ++ (text_z field.name ++ behind)) =
    ap (λ (bs : List ℕ). bs ++ rest) (fields_bytes-cons field fields) ∙ four_grouped (fixed w32 field.code) (inside_bytes field inner) (text_z field.name) (fields_bytes (length others) others) rest in
    let inside_read = forest_back more (depth + 1) (inside_count field fields) inner (text_z field.name ++ behind) split.inner (omega (arith, lengths, few)) in
    let first = first_back (fields_at more) depth count field fields behind split inside_read in
    ap (λ (n : ℕ). fields_at (suc more) depth n (fields_bytes (length (field ∷ fields)) (field ∷ fields) ++ rest)) split.counted
    ∙ ap (λ (bs : List ℕ). fields_at (suc more) depth (suc split.left) bs) bytes
    ∙ fields_at-suc more depth split.left (fixed w32 field.code ++ (inside_bytes field inner ++ (text_z field.name ++ behind)))
    ∙ ap (λ (p : Part (List FieldDef)). p >>= λ first. with_fields first.0 (fields_at more depth split.left first.1)) first
    ∙ ap (with_fields (field ∷ inner)) (forest_back more depth split.left others rest split.others (omega (arith, lengths, few)))
    ∙ ap (λ (fs : List FieldDef). let out : List FieldDef × List ℕ = (field ∷ fs, rest) in Ok out) (split_is field fields)

-- What an object has inside it takes no fewer bytes than it has fields.
inside-long : (field : FieldDef) (inner : List FieldDef) (object : Bool) → (field.code == OBJECT_CODE) ≡ object → length inner ≤ length (fields_bytes (length inner) inner) → (object ≡ false → inner ≡ []) → length inner ≤ length (inside_bytes field inner)
inside-long field inner true is long none =
    let n : ℕ = count_by (λ f. f.depth == field.depth + 1) inner in
    let more = length-append (fixed w32 n) (fields_bytes (length inner) inner) in
    subst (λ (b : Bool). length inner ≤ length (if b then fixed w32 n ++ fields_bytes (length inner) inner else [])) (sym is) (omega (arith, more, long))
inside-long field inner false is long none =
    let nothing : length inner ≡ 0 = ap (λ (fs : List FieldDef). length fs) (none refl) in
    omega (arith, nothing)

-- Fields take no fewer bytes than they are.
forest_long : (most depth count : ℕ) (fields : List FieldDef) → Forest depth count fields → length fields ≤ most → length fields ≤ length (fields_bytes (length fields) fields)
forest_long most depth count [] forest few = omega arith
forest_long zero depth count (field ∷ fields) forest few = absurd (omega arith)
forest_long (suc most) depth count (field ∷ fields) forest few =
    let split = forest_split depth count field fields forest in
    let inner : List FieldDef = inside field fields in
    let others : List FieldDef = after field fields in
    let lengths = split-len field fields in
    let none : (field.code == OBJECT_CODE) ≡ false → inner ≡ [] = λ plain. none_inside field inner plain split.within (subst (λ (d : ℕ). AllByRecursion (λ f. d + 1 ≤ f.depth) inner) (sym split.at_depth) split.inner.deep) in
    let first = inside-long field inner (field.code == OBJECT_CODE) refl (forest_long most (depth + 1) (inside_count field fields) inner split.inner (omega (arith, lengths, few))) none in
    let second = forest_long most depth split.left others split.others (omega (arith, lengths, few)) in
    summed (fixed w32 field.code) (inside_bytes field inner) (text_z field.name) (fields_bytes (length others) others) (fields_bytes (length (field ∷ fields)) (field ∷ fields)) (fields_bytes-cons field fields) (length-fixed32 field.code) first second lengths
  where
    summed : (a b c d whole : List ℕ) → whole ≡ ((a ++ b) ++ c) ++ d → length a ≡ 4 → length (inside field fields) ≤ length b → length (after field fields) ≤ length d → length (inside field fields) + length (after field fields) ≡ length fields → suc (length fields) ≤ length whole
    summed a b c d whole e la lb ld sum = omega (arith, ap (λ (bs : List ℕ). length bs) e, length-append ((a ++ b) ++ c) d, length-append (a ++ b) c, length-append a b, la, lb, ld, sum)

-- ---- a definition and a payload are read back

-- A definition behind its id is read.
def_back : (def : EventDef) (rest : List ℕ) → FitsPayload def → def_at (def_bytes def rest) ≡ Ok (def, rest)
unfolding def_at
def_back def rest fits =
    let fields = and_parts (list_all is_readable_field def.fields) (are_nested 0 def.fields) fits.fields in
    let forest : Forest 0 (outermost_count def.fields) def.fields = record { readable = fields.0; deep = all_deep def.fields; nested = fields.1; counts = fits.counts.1; count_is = refl } in
    let bytes : List ℕ = fields_bytes (length def.fields) def.fields in
    let r7 : List ℕ = bytes ++ rest in
    let r6 : List ℕ = fixed w32 (outermost_count def.fields) ++ r7 in
    let r5 : List ℕ = fixed w32 def.level ++ r6 in
    let r4 : List ℕ = fixed w32 def.version ++ r5 in
    let r3 : List ℕ = fixed w64 def.keywords ++ r4 in
    let r2 : List ℕ = text_z def.name ++ r3 in
    let r1 : List ℕ = fixed w32 def.id ++ r2 in
    let enough : length def.fields ≤ length r7 = omega (arith, forest_long (length def.fields) 0 (outermost_count def.fields) def.fields forest (omega arith), length-append bytes rest) in
    let e1 = text-read def.provider r1 fits.provider in
    let e2 = number-read-32 def.id r2 fits.id in
    let e3 = text-read def.name r3 fits.name in
    let e4 = number-read-64 def.keywords r4 fits.keywords in
    let e5 = number-read-32 def.version r5 fits.version in
    let e6 = number-read-32 def.level r6 fits.level in
    let e7 = number-read-32 (outermost_count def.fields) r7 fits.counts.0 in
    let e8 = forest_back (length r7) 0 (outermost_count def.fields) def.fields rest forest enough in
    rw (e1, e2, e3, e4, e5, e6, e7, e8) refl
  where
    all_deep : (fields : List FieldDef) → AllByRecursion (λ f. 0 ≤ f.depth) fields
    all_deep [] = tt
    all_deep (f ∷ fields) = (at_least f.depth, all_deep fields)
      where
        at_least : (n : ℕ) → 0 ≤ n
        at_least n = omega arith

-- A payload is read.
pub meta_back : (bytes : List ℕ) (id : ℕ) (def : EventDef) → IsMeta id def bytes → meta_at bytes ≡ Ok (id, def)
unfolding meta_at
meta_back bytes id def is =
    let later : List ℕ = def_bytes def is.more in
    let whole : bytes ≡ fixed w32 id ++ later = is.spelled ∙ sym (nine_grouped (fixed w32 id) (text_z def.provider) (fixed w32 def.id) (text_z def.name) (fixed w64 def.keywords) (fixed w32 def.version) (fixed w32 def.level) (fixed w32 (outermost_count def.fields)) (fields_bytes (length def.fields) def.fields) is.more) in
    let fits : id < 2 ^ 32 = small is.id_fits in
    let range : is_in_range 1 LAST_ID id ≡ true = and_from (nat_le 1 id) (nat_le id LAST_ID) (le-leb 1 id (some is.not_zero)) (le-leb id LAST_ID is.id_fits) in
    ap (λ (bs : List ℕ). number_at w32 bs >>= λ read. check (is_in_range 1 LAST_ID read.0) Wrong >>= λ ok. def_at read.1 >>= λ def. Ok (read.0, def.0)) whole
    ∙ ap (λ (p : Part ℕ). p >>= λ read. check (is_in_range 1 LAST_ID read.0) Wrong >>= λ ok. def_at read.1 >>= λ def. Ok (read.0, def.0)) (number-read-32 id later fits)
    ∙ ap (λ (b : Bool). check b Wrong >>= λ ok. def_at later >>= λ def. Ok (id, def.0)) range
    ∙ ap (λ (p : Part EventDef). p >>= λ def. Ok (id, def.0)) (def_back def is.more is.def_fits)
  where
    small : id ≤ LAST_ID → id < 2 ^ 32
    small h = omega arith

    some : 0 < id → 1 ≤ id
    some h = omega arith
