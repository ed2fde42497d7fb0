-- Fields one after another, each with those inside it.
use Rattle.std.proofs.Common.{◌≡◌, ℕ, zero, suc, ◌<◌, ◌≤◌, ◌-◌, ◌&&◌, nat_le, nat_lt, IsTrue, get_or, Bool, true, false, List, [], ◌∷◌, ◌++◌, length, take, drop, refl, sym, ap, subst, ◌∙◌, append_assoc, length-drop, arith}
use Rattle.std.proofs.lemmas.List.{length-take, take_all}
use Rattle.std.proofs.lemmas.Bool.{false≢true, leb-true}
use Rattle.std.proofs.lemmas.List.Folds.{length-prefix_len}
use Rattle.std.proofs.lemmas.Grind.{common_steps}
use Rattle.std.specs.Int.{w32}
use Rattle.std.specs.List.{list_all, prefix_len}
use Rattle.ep_defs.specs.declared.limits.TheConstants.{FIELD_DEPTH, FIELD_NAME_UNITS}
use Rattle.ep_defs.specs.declared.event.FieldDef.{FieldDef}
use Rattle.ep_defs.specs.Event.{is_valid_field, is_type_code, is_text}
use Rattle.pt_num.specs.Numbers.{fixed}
use Rattle.pt_num.specs.Texts.{text_z}
use Rattle.nt_meta.specs.Meta.{fields_bytes, inside, after}
use Rattle.nt_meta.specs.state.Fields.{inside_bytes}

-- The fields inside one are no more than those after it.
length-inside : (field : FieldDef) (fields : List FieldDef) → length (inside field fields) ≤ length fields
length-inside field fields = grind (arith, common_steps, length-take)

-- The fields after one and those inside it are those behind the first deeper ones.
pub after_is : (field : FieldDef) (fields : List FieldDef) → drop (prefix_len (λ f. nat_lt field.depth f.depth) fields) fields ≡ after field fields
after_is field fields = ap (λ (n : ℕ). drop n fields) (sym (length-prefix_len (λ (f : FieldDef). nat_lt field.depth f.depth) fields))

-- The fields after one and those inside it are no more either.
length-after : (field : FieldDef) (fields : List FieldDef) → length (after field fields) ≤ length fields
length-after field fields = grind (arith, common_steps, length-drop)

-- Any bound that is great enough gives the same bytes.
pub same_bytes : (n m : ℕ) (fields : List FieldDef) → length fields ≤ n → length fields ≤ m → fields_bytes n fields ≡ fields_bytes m fields
same_bytes zero zero [] low high = refl
same_bytes zero (suc m) [] low high = refl
same_bytes (suc n) zero [] low high = refl
same_bytes (suc n) (suc m) [] low high = refl
same_bytes zero m (field ∷ fields) low high = absurd (omega arith)
same_bytes (suc n) zero (field ∷ fields) low high = absurd (omega arith)
same_bytes (suc n) (suc m) (field ∷ fields) low high =
    let within = length-inside field fields in
    let later = length-after field fields in
    rw
    (same_bytes n m (inside field fields) (omega arith) (omega arith), same_bytes n m (after field fields) (omega arith) (omega arith))
    refl

-- One field: its code, what is inside it, its name, and the fields after it.
pub fields_bytes-cons : (field : FieldDef) (later : List FieldDef) → fields_bytes (length (field ∷ later)) (field ∷ later) ≡ fixed w32 field.code ++ inside_bytes field (inside field later) ++ text_z field.name ++ fields_bytes (length (after field later)) (after field later)
fields_bytes-cons field later =
    rw (
      same_bytes (length later) (length (inside field later)) (inside field later) (length-inside field later) (omega arith),
      same_bytes (length later) (length (after field later)) (after field later) (length-after field later) (omega arith),
    )
    refl

-- Four pieces after some bytes.
four_grouped : (bytes first second third fourth : List ℕ) → (((bytes ++ first) ++ second) ++ third) ++ fourth ≡ bytes ++ (((first ++ second) ++ third) ++ fourth)
four_grouped bytes first second third fourth = simp append_assoc

-- One field is put.
pub fields_step : (bytes all : List ℕ) (field : FieldDef) (later : List FieldDef) → bytes ++ fields_bytes (length (field ∷ later)) (field ∷ later) ≡ all → (((bytes ++ fixed w32 field.code) ++ inside_bytes field (inside field later)) ++ text_z field.name) ++ fields_bytes (length (after field later)) (after field later) ≡ all
fields_step bytes all field later put =
    four_grouped bytes (fixed w32 field.code) (inside_bytes field (inside field later)) (text_z field.name) (fields_bytes (length (after field later)) (after field later))
    ∙ ap (λ (more : List ℕ). bytes ++ more) (sym (fields_bytes-cons field later))
    ∙ put

-- The fields behind the first one, as a slice's pattern has them.
abbrev pub behind : List FieldDef → List FieldDef
behind rest = take (length rest - 1) (drop 1 rest)

-- The first field and those behind it.
pub rest_is : (rest : List FieldDef) (field : FieldDef) → 1 ≤ length rest → field ≡ get_or rest 0 field → rest ≡ field ∷ behind rest
rest_is [] field some first = absurd (omega arith)
rest_is (f ∷ rest) field some first =
    let all : take (suc (length rest) - 1) rest ≡ rest = take_all (suc (length rest) - 1) rest (omega arith) in
    cc

-- Both sides of an `and` that holds.
pub both_hold : (a b : Bool) → IsTrue (a && b) → IsTrue a × IsTrue b
both_hold true b h = (refl, h)
both_hold false b h = absurd (false≢true h)

-- An `and` of two that hold.
pub and_holds : (a b : Bool) → IsTrue a → IsTrue b → IsTrue (a && b)
and_holds true b h k = k
and_holds false b h k = h

-- A test that all pass, all of the first pass.
pub list_all-take : {X : Type 0} (p : X → Bool) (n : ℕ) (xs : List X) → IsTrue (list_all p xs) → IsTrue (list_all p (take n xs))
list_all-take p zero xs h = refl
list_all-take p (suc n) [] h = refl
list_all-take p (suc n) (x ∷ xs) h =
    let both = both_hold (p x) (list_all p xs) h in
    and_holds (p x) (list_all p (take n xs)) both.0 (list_all-take p n xs both.1)

-- A test that all pass, all behind the first pass.
pub list_all-drop : {X : Type 0} (p : X → Bool) (n : ℕ) (xs : List X) → IsTrue (list_all p xs) → IsTrue (list_all p (drop n xs))
list_all-drop p zero xs h = h
list_all-drop p (suc n) [] h = refl
list_all-drop p (suc n) (x ∷ xs) h = list_all-drop p n xs (both_hold (p x) (list_all p xs) h).1

-- What is known of the first field, those inside it, and those after these.
pub record Parts (field : FieldDef) (rest within later : List FieldDef) : Type 0 where
  pub depth : field.depth ≤ 8
  pub fewer_within : length within < length rest
  pub fewer_later : length later < length rest
  pub valid_within : IsTrue (list_all is_valid_field within)
  pub valid_later : IsTrue (list_all is_valid_field later)

-- It follows where all fields are valid.
pub Parts-of : (field : FieldDef) (rest within later : List FieldDef) → 1 ≤ length rest → field ≡ get_or rest 0 field → IsTrue (list_all is_valid_field rest) → within ≡ inside field (behind rest) → later ≡ after field (behind rest) → Parts field rest within later
Parts-of field rest within later some first valid is_within is_later =
    let whole = rest_is rest field some first in
    let all : IsTrue (list_all is_valid_field (field ∷ behind rest)) = subst (λ (fields : List FieldDef). IsTrue (list_all is_valid_field fields)) whole valid in
    let both = both_hold (is_valid_field field) (list_all is_valid_field (behind rest)) all in
    let deep = both_hold (is_type_code field.code && is_text FIELD_NAME_UNITS field.name) (nat_le field.depth FIELD_DEPTH) both.0 in
    let count : length rest ≡ suc (length (behind rest)) = ap length whole in
    let few = length-inside field (behind rest) in
    let left = length-after field (behind rest) in
    record {
      depth = leb-true field.depth 8 deep.1;
      fewer_within = rw is_within (omega arith);
      fewer_later = rw is_later (omega arith);
      valid_within = rw is_within (list_all-take is_valid_field (prefix_len (λ f. nat_lt field.depth f.depth) (behind rest)) (behind rest) both.1);
      valid_later = rw is_later (list_all-drop is_valid_field (length (inside field (behind rest))) (behind rest) both.1);
    }

-- The first field is put.
pub first_put : (field : FieldDef) (rest within later : List FieldDef) (bytes coded filled named all : List ℕ) → 1 ≤ length rest → field ≡ get_or rest 0 field → within ≡ inside field (behind rest) → later ≡ after field (behind rest) → coded ≡ bytes ++ fixed w32 field.code → filled ≡ coded ++ inside_bytes field within → named ≡ filled ++ text_z field.name → bytes ++ fields_bytes (length rest) rest ≡ all → named ++ fields_bytes (length later) later ≡ all
first_put field rest within later bytes coded filled named all some first is_within is_later e1 e2 e3 put =
    let whole = rest_is rest field some first in
    let before : bytes ++ fields_bytes (length (field ∷ behind rest)) (field ∷ behind rest) ≡ all = subst (λ (fields : List FieldDef). bytes ++ fields_bytes (length fields) fields ≡ all) whole put in
    rw (e3, e2, e1, is_later, is_within) (fields_step bytes all field (behind rest) before)

-- Nine pieces after some bytes.
pub meta_put : (old o1 o2 o3 o4 o5 o6 o7 o8 p1 p2 p3 p4 p5 p6 p7 p8 p9 : List ℕ) → o1 ≡ old ++ p1 → o2 ≡ o1 ++ p2 → o3 ≡ o2 ++ p3 → o4 ≡ o3 ++ p4 → o5 ≡ o4 ++ p5 → o6 ≡ o5 ++ p6 → o7 ≡ o6 ++ p7 → o8 ≡ o7 ++ p8 → o8 ++ p9 ≡ old ++ (p1 ++ p2 ++ p3 ++ p4 ++ p5 ++ p6 ++ p7 ++ p8 ++ p9)
meta_put old o1 o2 o3 o4 o5 o6 o7 o8 p1 p2 p3 p4 p5 p6 p7 p8 p9 e1 e2 e3 e4 e5 e6 e7 e8 =
    rw (e8, e7, e6, e5, e4, e3, e2, e1) (simp append_assoc)
