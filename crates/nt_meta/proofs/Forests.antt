-- What is read of fields is how they are spelled.
use Rattle.std.proofs.Common.{◌≡◌, ℕ, zero, suc, ◌+◌, ◌^◌, ◌<◌, ◌≤◌, Bool, true, false, cond, inl, inr, Ok, Err, List, [], ◌∷◌, ◌++◌, length, take, drop, refl, sym, ap, subst, ◌∙◌, append_assoc, arith}
use Rattle.std.specs.Prelude.{◌&&◌, nat_le, nat_lt, ◌==◌, take_while, count_by, if◌then◌else◌}
use Rattle.std.specs.Int.{w32}
use Rattle.std.specs.List.{AllByRecursion, list_all, prefix_len}
use Rattle.std.proofs.lemmas.Bool.{cases_Bool, and_from, and_parts, eq-eqb, le-leb, leb-true, lt-ltb, le-ltb, ne_eqb}
use Rattle.std.proofs.lemmas.List.Sums.{sum_by-append}
use Rattle.ep_defs.specs.declared.event.TheConstants.{OBJECT_CODE}
use Rattle.ep_defs.specs.declared.event.FieldDef.{FieldDef}
use Rattle.ep_defs.specs.Event.{is_type_code, are_nested, deepest_after}
use Rattle.pt_num.specs.Numbers.{fixed}
use Rattle.pt_num.specs.Texts.{text_z, are_units}
use Rattle.pt_num.specs.Steps.{check}
use Rattle.pt_num.proofs.Steps.{bind_inv}
use Rattle.pt_num.proofs.Joined.{four_grouped}
use Rattle.nt_meta.specs.declared.limits.TheConstants.{READ_DEPTH}
use Rattle.nt_meta.specs.Meta.{inside, after, inside_counts, fields_bytes, is_readable_field}
use Rattle.nt_meta.specs.Reading.{Part, Cut, Wrong, number_at, text_at, if_object, field_at, with_fields, fields_at}
use Rattle.nt_meta.specs.state.Fields.{inside_bytes}
use Rattle.nt_meta.proofs.PutFields.{fields_bytes-cons}
use Rattle.nt_meta.proofs.FieldSteps.{fields_at-zero, fields_at-none, fields_at-suc, within as inner_at, same_part}
use Rattle.nt_meta.proofs.Spelled.{AreLow, low-after, number-spelled-32, text-spelled}

-- ---- where the fields inside one end

-- The list is empty, or its first element fails.
abbrev pub FailsFirst : {A : Type 0} → (A → Bool) → List A → Type 0
FailsFirst p [] = Unit {0}
FailsFirst p (x ∷ xs) = p x ≡ false

one-plus : (n : ℕ) → 1 + n ≡ suc n
one-plus n = omega arith

pub take_while-cons : {A : Type 0} (p : A → Bool) (x : A) (xs : List A) → p x ≡ true → take_while p (x ∷ xs) ≡ x ∷ take_while p xs
take_while-cons p x xs e =
    ap (λ (b : Bool). take (cond b (1 + prefix_len p xs) 0) (x ∷ xs)) e ∙ ap (λ (n : ℕ). take n (x ∷ xs)) (one-plus (prefix_len p xs))

pub take_while-stops : {A : Type 0} (p : A → Bool) (x : A) (xs : List A) → p x ≡ false → take_while p (x ∷ xs) ≡ []
take_while-stops p x xs e = ap (λ (b : Bool). take (cond b (1 + prefix_len p xs) 0) (x ∷ xs)) e

pub take_while-append : {A : Type 0} (p : A → Bool) (xs ys : List A) → FailsFirst p ys → take_while p (xs ++ ys) ≡ take_while p xs
take_while-append p [] [] fails = refl
take_while-append p [] (y ∷ ys) fails = take_while-stops p y ys fails
take_while-append {A} p (x ∷ xs) ys fails =
    elim (cases_Bool (p x)) [
      | inl passes ↦
          take_while-cons p x (xs ++ ys) passes
          ∙ ap (λ (zs : List A). x ∷ zs) (take_while-append p xs ys fails)
          ∙ sym (take_while-cons p x xs passes)
      | inr other ↦ take_while-stops p x (xs ++ ys) other ∙ sym (take_while-stops p x xs other)
    ]

take_while-all : {A : Type 0} (p : A → Bool) (xs : List A) → AllByRecursion (λ x. p x ≡ true) xs → take_while p xs ≡ xs
take_while-all p [] all = refl
take_while-all {A} p (x ∷ xs) all =
    take_while-cons p x xs all.0 ∙ ap (λ (zs : List A). x ∷ zs) (take_while-all p xs all.1)

drop-front : {A : Type 0} (xs ys : List A) → drop (length xs) (xs ++ ys) ≡ ys
drop-front [] ys = refl
drop-front (x ∷ xs) ys = drop-front xs ys

-- The fields inside one, and others behind them.
inside-is : (field : FieldDef) (inner others : List FieldDef) → AllByRecursion (λ f. nat_lt field.depth f.depth ≡ true) inner → FailsFirst (λ f. nat_lt field.depth f.depth) others → inside field (inner ++ others) ≡ inner
inside-is field inner others deeper ends =
    take_while-append (λ (f : FieldDef). nat_lt field.depth f.depth) inner others ends ∙ take_while-all (λ (f : FieldDef). nat_lt field.depth f.depth) inner deeper

after-is : (field : FieldDef) (inner others : List FieldDef) → AllByRecursion (λ f. nat_lt field.depth f.depth ≡ true) inner → FailsFirst (λ f. nat_lt field.depth f.depth) others → after field (inner ++ others) ≡ others
after-is field inner others deeper ends =
    ap (λ (front : List FieldDef). drop (length front) (inner ++ others)) (inside-is field inner others deeper ends) ∙ drop-front inner others

-- ---- forests

-- Fields that stand at this depth or deeper, so many of them at it.
pub record Forest (depth count : ℕ) (fields : List FieldDef) : Type 0 where
  pub readable : list_all is_readable_field fields ≡ true
  pub deep : AllByRecursion (λ f. depth ≤ f.depth) fields
  pub nested : are_nested depth fields ≡ true
  pub counts : AllByRecursion (λ n. n < 2 ^ 32) (inside_counts fields)
  pub count_is : count_by (λ f. f.depth == depth) fields ≡ count

pub forest_none : (depth : ℕ) → Forest depth 0 []
forest_none depth = record { readable = refl; deep = tt; nested = refl; counts = tt; count_is = refl }

-- The first field of a forest is no deeper.
first-fails : (depth at count : ℕ) (fields : List FieldDef) → at ≤ depth → Forest at count fields → FailsFirst (λ f. nat_lt depth f.depth) fields
first-fails depth at count [] low forest = tt
first-fails depth at count (f ∷ fields) low forest =
    let first = leb-true f.depth at (and_parts (nat_le f.depth at) (are_nested (deepest_after f) fields) forest.nested).0 in
    le-ltb depth f.depth (omega arith)

deeper-all : (depth : ℕ) (fields : List FieldDef) → AllByRecursion (λ f. depth + 1 ≤ f.depth) fields → AllByRecursion (λ f. nat_lt depth f.depth ≡ true) fields
deeper-all depth [] h = tt
deeper-all depth (f ∷ fields) h = (lt-ltb depth f.depth (lower f.depth h.0), deeper-all depth fields h.1)
  where
    lower : (n : ℕ) → depth + 1 ≤ n → depth < n
    lower n h = omega arith

all-readable : (a b : List FieldDef) → list_all is_readable_field a ≡ true → list_all is_readable_field b ≡ true → list_all is_readable_field (a ++ b) ≡ true
all-readable [] b p q = q
all-readable (f ∷ a) b p q =
    let parts = and_parts (is_readable_field f) (list_all is_readable_field a) p in
    and_from (is_readable_field f) (list_all is_readable_field (a ++ b)) parts.0 (all-readable a b parts.1 q)

all-deep : (low : ℕ) (a b : List FieldDef) → AllByRecursion (λ f. low + 1 ≤ f.depth) a → AllByRecursion (λ f. low ≤ f.depth) b → AllByRecursion (λ f. low ≤ f.depth) (a ++ b)
all-deep low [] b p q = q
all-deep low (f ∷ a) b p q = (weaker f.depth p.0, all-deep low a b p.1 q)
  where
    weaker : (n : ℕ) → low + 1 ≤ n → low ≤ n
    weaker n h = omega arith

-- What may stand at a depth may stand where deeper fields may.
pub nested-weaker : (low high : ℕ) (fields : List FieldDef) → low ≤ high → are_nested low fields ≡ true → are_nested high fields ≡ true
nested-weaker low high [] h n = refl
nested-weaker low high (f ∷ fields) h n =
    let parts = and_parts (nat_le f.depth low) (are_nested (deepest_after f) fields) n in
    let first = leb-true f.depth low parts.0 in
    and_from (nat_le f.depth high) (are_nested (deepest_after f) fields) (le-leb f.depth high (omega arith)) parts.1

deepest-high : (f : FieldDef) → f.depth ≤ deepest_after f
deepest-high f =
    elim (cases_Bool (f.code == OBJECT_CODE)) [ inl object ↦ rw object (omega arith) | inr other ↦ rw other (omega arith) ]

nested-append : (low high : ℕ) (a b : List FieldDef) → low ≤ high → AllByRecursion (λ f. low ≤ f.depth) a → are_nested high a ≡ true → are_nested low b ≡ true → are_nested high (a ++ b) ≡ true
nested-append low high [] b h deep p q = nested-weaker low high b h q
nested-append low high (f ∷ a) b h deep p q =
    let parts = and_parts (nat_le f.depth high) (are_nested (deepest_after f) a) p in
    and_from (nat_le f.depth high) (are_nested (deepest_after f) (a ++ b)) parts.0
    (nested-append low (deepest_after f) a b (omega (arith, deepest-high f, deep.0)) deep.1 parts.1 q)

-- How many fields stand in each, for fields and others behind them.
counts-append : (depth : ℕ) (a b : List FieldDef) → AllByRecursion (λ f. depth + 1 ≤ f.depth) a → ((f : FieldDef) → depth < f.depth → FailsFirst (λ g. nat_lt f.depth g.depth) b) → AllByRecursion (λ n. n < 2 ^ 32) (inside_counts a) → AllByRecursion (λ n. n < 2 ^ 32) (inside_counts b) → AllByRecursion (λ n. n < 2 ^ 32) (inside_counts (a ++ b))
counts-append depth [] b deep ends p q = q
counts-append depth (f ∷ a) b deep ends p q =
    let fails = ends f (omega (arith, deep.0)) in
    let same : inside f (a ++ b) ≡ inside f a = take_while-append (λ (g : FieldDef). nat_lt f.depth g.depth) a b fails in
    (subst (λ (fields : List FieldDef). count_by (λ (g : FieldDef). g.depth == f.depth + 1) fields < 2 ^ 32) (sym same) p.0, counts-append depth a b deep.1 ends p.1 q)

pub count-append : (p : FieldDef → Bool) (a b : List FieldDef) → count_by p (a ++ b) ≡ count_by p a + count_by p b
count-append p a b = sum_by-append (λ (f : FieldDef). cond (p f) 1 0) a b

pub count-cons : (p : FieldDef → Bool) (f : FieldDef) (fields : List FieldDef) → p f ≡ true → count_by p (f ∷ fields) ≡ suc (count_by p fields)
count-cons p f fields e =
    let one : count_by p (f ∷ []) ≡ 1 = ap (λ (b : Bool). 0 + cond b 1 0) e in
    let split : count_by p (f ∷ fields) ≡ count_by p (f ∷ []) + count_by p fields = count-append p (f ∷ []) fields in
    split ∙ ap (λ (n : ℕ). n + count_by p fields) one ∙ one-plus (count_by p fields)

pub count-none : (depth : ℕ) (fields : List FieldDef) → AllByRecursion (λ f. depth + 1 ≤ f.depth) fields → count_by (λ f. f.depth == depth) fields ≡ 0
count-none depth [] deep = refl
count-none depth (f ∷ fields) deep = rw (ne_eqb f.depth depth (apart f.depth deep.0)) (count-none depth fields deep.1)
  where
    apart : (n : ℕ) → depth + 1 ≤ n → n ≡ depth → ⊥
    apart n h e = omega arith

-- A field with those inside it, before others.
pub forest_more : (field : FieldDef) (inner others : List FieldDef) (within count : ℕ) → is_readable_field field ≡ true → Forest (field.depth + 1) within inner → within < 2 ^ 32 → are_nested (deepest_after field) inner ≡ true → Forest field.depth count others → Forest field.depth (suc count) (field ∷ inner ++ others)
forest_more field inner others within count good forest fits nested more =
    let ends = first-fails field.depth field.depth count others (omega arith) more in
    let is = inside-is field inner others (deeper-all field.depth inner forest.deep) ends in
    let at-depth : count_by (λ (g : FieldDef). g.depth == field.depth) (inner ++ others) ≡ count = omega (arith, count-append (λ (g : FieldDef). g.depth == field.depth) inner others, count-none field.depth inner forest.deep, more.count_is) in
    record {
      readable = and_from (is_readable_field field) (list_all is_readable_field (inner ++ others)) good (all-readable inner others forest.readable more.readable);
      deep = (omega arith, all-deep field.depth inner others forest.deep more.deep);
      nested = and_from (nat_le field.depth field.depth) (are_nested (deepest_after field) (inner ++ others)) (le-leb field.depth field.depth (omega arith))
          (nested-append field.depth (deepest_after field) inner others (deepest-high field) (all-low field.depth inner forest.deep) nested more.nested);
      counts = (
        subst (λ (n : ℕ). n < 2 ^ 32) (sym (ap (λ (fields : List FieldDef). count_by (λ (g : FieldDef). g.depth == field.depth + 1) fields) is ∙ forest.count_is)) fits,
        counts-append field.depth inner others forest.deep (λ f higher. first-fails f.depth field.depth count others (omega arith) more) forest.counts more.counts,
      );
      count_is = count-cons (λ (g : FieldDef). g.depth == field.depth) field (inner ++ others) (eq-eqb field.depth field.depth refl) ∙ ap suc at-depth;
    }
  where
    all-low : (low : ℕ) (fields : List FieldDef) → AllByRecursion (λ f. low + 1 ≤ f.depth) fields → AllByRecursion (λ f. low ≤ f.depth) fields
    all-low low [] h = tt
    all-low low (f ∷ fields) h = (weaker f.depth h.0, all-low low fields h.1)
      where
        weaker : (n : ℕ) → low + 1 ≤ n → low ≤ n
        weaker n h = omega arith

-- The bytes of a field with those inside it, before others.
pub forest_bytes : (field : FieldDef) (inner others : List FieldDef) (within count : ℕ) → Forest (field.depth + 1) within inner → Forest field.depth count others → fields_bytes (length (field ∷ inner ++ others)) (field ∷ inner ++ others) ≡ fixed w32 field.code ++ inside_bytes field inner ++ text_z field.name ++ fields_bytes (length others) others
forest_bytes field inner others within count forest more =
    let ends = first-fails field.depth field.depth count others (omega arith) more in
    let deeper = deeper-all field.depth inner forest.deep in
    fields_bytes-cons field (inner ++ others)
    ∙ ap (λ (fields : List FieldDef). fixed w32 field.code ++ inside_bytes field fields ++ text_z field.name ++ fields_bytes (length (after field (inner ++ others))) (after field (inner ++ others))) (inside-is field inner others deeper ends)
    ∙ ap (λ (fields : List FieldDef). fixed w32 field.code ++ inside_bytes field inner ++ text_z field.name ++ fields_bytes (length fields) fields) (after-is field inner others deeper ends)

-- ---- reading

pub check-inv : (b : Bool) (x : Unit {0}) → check b Wrong ≡ Ok x → b ≡ true
check-inv true x e = refl
check-inv false x e = absurd (cc)

with-inv : (first : List FieldDef) (p : Part (List FieldDef)) (fields : List FieldDef) (rest : List ℕ) → with_fields first p ≡ Ok (fields, rest) → (others : List FieldDef) × (p ≡ Ok (others, rest)) × (fields ≡ first ++ others)
with-inv first (Ok others) fields rest e =
    let same = same_part (first ++ others.0) fields others.1 rest e in
    (others.0, ap (λ (r : List ℕ). let out : List FieldDef × List ℕ = (others.0, r) in Ok out) same.1, sym same.0)
with-inv first (Err fault) fields rest e = absurd (cc)

-- Fields inside one that are read: a forest one deeper, with their number before them.
pub record Within (depth code : ℕ) (bytes : List ℕ) (inner : List FieldDef) (rest : List ℕ) : Type 0 where
  pub count : ℕ
  pub forest : Forest (depth + 1) count inner
  pub fits : count < 2 ^ 32
  pub nested : are_nested (if code == OBJECT_CODE then depth + 1 else depth) inner ≡ true
  pub spelled : bytes ≡ (if code == OBJECT_CODE then fixed w32 (count_by (λ f. f.depth == depth + 1) inner) ++ fields_bytes (length inner) inner else []) ++ rest

-- The fields that a reading function reads are forests.
abbrev ReadsForests : (ℕ → ℕ → List ℕ → Part (List FieldDef)) → Type 0
ReadsForests fields = (depth count : ℕ) (bytes : List ℕ) (read : List FieldDef) (rest : List ℕ) → fields depth count bytes ≡ Ok (read, rest) → AreLow bytes → Forest depth count read × (bytes ≡ fields_bytes (length read) read ++ rest)

within-read : (fields : ℕ → ℕ → List ℕ → Part (List FieldDef)) → ReadsForests fields → (depth code : ℕ) (bytes : List ℕ) (inner : List FieldDef) (rest : List ℕ) → (object : Bool) → (code == OBJECT_CODE) ≡ object → if_object object (inner_at fields depth) bytes ≡ Ok (inner, rest) → AreLow bytes → Within depth code bytes inner rest
within-read fields reads depth code bytes inner rest true is e low =
    let counted = bind_inv (number_at w32 bytes) (λ count. fields (depth + 1) count.0 count.1) (inner, rest) e in
    let number = number-spelled-32 bytes counted.0.1 counted.0.0 low counted.1 in
    let behind : AreLow counted.0.1 = low-after (fixed w32 counted.0.0) counted.0.1 (subst AreLow number.0 low) in
    let forest = reads (depth + 1) counted.0.0 counted.0.1 inner rest counted.2 behind in
    record {
      count = counted.0.0;
      forest = forest.0;
      fits = number.1;
      nested = rw is forest.0.nested;
      spelled = rw is
          (number.0
          ∙ ap (λ (back : List ℕ). fixed w32 counted.0.0 ++ back) forest.1
          ∙ sym (append_assoc (fixed w32 counted.0.0) (fields_bytes (length inner) inner) rest)
          ∙ ap (λ (n : ℕ). (fixed w32 n ++ fields_bytes (length inner) inner) ++ rest) (sym forest.0.count_is));
    }
within-read fields reads depth code bytes inner rest false is e low =
    let same = same_part [] inner bytes rest e in
    record {
      count = 0;
      forest = subst (Forest (depth + 1) 0) same.0 (forest_none (depth + 1));
      fits = omega arith;
      nested = rw is (ap (are_nested depth) (sym same.0));
      spelled = rw is same.1;
    }

-- So many fields of a depth.
pub forest_read : (more : ℕ) → ReadsForests (fields_at more)
forest_read more depth zero bytes fields rest e low =
    let same = same_part [] fields bytes rest (sym (fields_at-zero more depth bytes) ∙ e) in
    (subst (Forest depth 0) same.0 (forest_none depth), same.1 ∙ ap (λ (fs : List FieldDef). fields_bytes (length fs) fs ++ rest) same.0)
forest_read zero depth (suc count) bytes fields rest e low = absurd (cut (sym (fields_at-none depth count bytes) ∙ e))
  where
    cut : ◌≡◌ {A = Part (List FieldDef)} (Err Cut) (Ok (fields, rest)) → ⊥
    cut h = cc
forest_read (suc more) depth (suc count) bytes fields rest e low =
    let first = bind_inv (field_at (fields_at more) depth bytes) (λ first. with_fields first.0 (fields_at more depth count first.1)) (fields, rest) (sym (fields_at-suc more depth count bytes) ∙ e) in
    let others = with-inv first.0.0 (fields_at more depth count first.0.1) fields rest first.2 in
    let coded = bind_inv (number_at w32 bytes) _ first.0 first.1 in
    let checked = bind_inv (check (is_type_code coded.0.0 && nat_le depth READ_DEPTH) Wrong) _ first.0 coded.2 in
    let inner = bind_inv (if_object (coded.0.0 == OBJECT_CODE) (inner_at (fields_at more) depth) coded.0.1) _ first.0 checked.2 in
    let named = bind_inv (text_at inner.0.1) _ first.0 inner.2 in
    let code = number-spelled-32 bytes coded.0.1 coded.0.0 low coded.1 in
    let low1 : AreLow coded.0.1 = low-after (fixed w32 coded.0.0) coded.0.1 (subst AreLow code.0 low) in
    let within = within-read (fields_at more) (forest_read more) depth coded.0.0 coded.0.1 inner.0.0 inner.0.1 (coded.0.0 == OBJECT_CODE) refl inner.1 low1 in
    let low2 : AreLow inner.0.1 = low-after _ inner.0.1 (subst AreLow within.spelled low1) in
    let name = text-spelled inner.0.1 named.0.1 named.0.0 low2 named.1 in
    let low3 : AreLow named.0.1 = low-after (text_z named.0.0) named.0.1 (subst AreLow name.0 low2) in
    let field : FieldDef = record { depth = depth; code = coded.0.0; name = named.0.0 } in
    let made = same_part (field ∷ inner.0.0) first.0.0 named.0.1 first.0.1 named.2 in
    let low4 : AreLow first.0.1 = subst AreLow made.1 low3 in
    let later = forest_read more depth count first.0.1 others.0 rest others.1 low4 in
    let known = and_parts (is_type_code coded.0.0) (nat_le depth READ_DEPTH) (check-inv (is_type_code coded.0.0 && nat_le depth READ_DEPTH) checked.0 checked.1) in
    let good : is_readable_field field ≡ true = and_from (is_type_code coded.0.0 && are_units named.0.0) (nat_le depth READ_DEPTH) (and_from (is_type_code coded.0.0) (are_units named.0.0) known.0 name.1) known.1 in
    let all : fields ≡ field ∷ inner.0.0 ++ others.0 = others.2 ∙ ap (λ (front : List FieldDef). front ++ others.0) (sym made.0) in
    let forest : Forest depth (suc count) (field ∷ inner.0.0 ++ others.0) = forest_more field inner.0.0 others.0 within.count count good within.forest within.fits within.nested later.0 in (
      subst (Forest depth (suc count)) (sym all) forest,
      code.0
          ∙ ap (λ (back : List ℕ). fixed w32 coded.0.0 ++ back) (within.spelled ∙ ap (λ (back : List ℕ). inside_bytes field inner.0.0 ++ back) (name.0 ∙ ap (λ (back : List ℕ). text_z named.0.0 ++ back) (made.1 ∙ later.1)))
          ∙ sym (four_grouped (fixed w32 coded.0.0) (inside_bytes field inner.0.0) (text_z named.0.0) (fields_bytes (length others.0) others.0) rest)
          ∙ ap (λ (front : List ℕ). front ++ rest) (sym (forest_bytes field inner.0.0 others.0 within.count count within.forest later.0))
          ∙ ap (λ (fs : List FieldDef). fields_bytes (length fs) fs ++ rest) (sym all),
    )
