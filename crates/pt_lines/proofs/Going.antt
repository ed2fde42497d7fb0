-- The fields of a payload, put one after another.
use Rattle.std.proofs.Common.{◌≡◌, ℕ, ◌+◌, ◌<◌, suc, true, false, eqb, List, [], ◌∷◌, ◌++◌, length, take, drop, get_or, Some, None, Ok, Err, refl, sym, ap, ◌∙◌, subst, append_assoc, add-one, drop-cons}
use Rattle.std.proofs.Math.Seq.{take-append_seam}
use Rattle.ep_defs.specs.declared.event.FieldDef.{FieldDef}
use Rattle.ep_defs.specs.Event.{deepest_after}
use Rattle.pt_num.specs.Begins.{Keeps}
use Rattle.nt_fields.specs.declared.kind.FieldKind.{FieldKind}
use Rattle.nt_fields.specs.Kinds.{kind_of}
use Rattle.nt_fields.specs.Values.{FieldValue, DoesNotFit, value_at, values_at, payload_at}
use Rattle.pt_lines.specs.Texts.{IsShown, AreFields, closes, field_name}
use Rattle.pt_lines.specs.Appends.{Appends}
use Rattle.pt_lines.specs.state.Fields.{PutsValues}

-- Of the fields some are put, and these are left, with these bytes and so many open objects.
pub record Going (fields : List FieldDef) (payload : List ℕ) (old : List ℕ) (left : List FieldDef) (bytes : List ℕ) (opened : ℕ) (out : List ℕ) : Type 0 where
  pub text : List ℕ
  pub put : out ≡ old ++ text
  pub goes : (values : List FieldValue) (rest : List ℕ) → values_at left bytes ≡ Ok (values, rest)
      → (all : List FieldValue) × (values_at fields payload ≡ Ok (all, rest)) × ((more : List ℕ) → AreFields opened left values more → AreFields 0 fields all (text ++ more))
  pub stops : values_at left bytes ≡ Err DoesNotFit → values_at fields payload ≡ Err DoesNotFit

-- What holds of the fields that are left holds of this one, with which they begin, and those after it.
pub at-field : (P : List FieldDef → Type 0) (fields : List FieldDef) (index : ℕ) (field : FieldDef) → index < length fields → field ≡ get_or fields index field
    → P (drop index fields) → P (field ∷ drop (index + 1) fields)
at-field P fields index field within is =
    subst P
    (drop-cons fields index field within
    ∙ ap (λ (f : FieldDef). f ∷ drop (suc index) fields) (sym is)
    ∙ ap (λ (n : ℕ). field ∷ drop n fields) (sym (add-one index)))

-- A field and those after it.
pub values-on : (field : FieldDef) (others : List FieldDef) (bytes next rest : List ℕ) (kind : FieldKind) (value : FieldValue) (values : List FieldValue) → kind_of field.code ≡ Some kind → value_at kind bytes ≡ Ok (value, next) → values_at others next ≡ Ok (values, rest) → values_at (field ∷ others) bytes ≡ Ok (value ∷ values, rest)
unfolding values_at
values-on field others bytes next rest kind value values known read later = rw (known, read, later) refl

pub values-off : (field : FieldDef) (others : List FieldDef) (bytes next : List ℕ) (kind : FieldKind) (value : FieldValue) → kind_of field.code ≡ Some kind → value_at kind bytes ≡ Ok (value, next) → values_at others next ≡ Err DoesNotFit → values_at (field ∷ others) bytes ≡ Err DoesNotFit
unfolding values_at
values-off field others bytes next kind value known read later = rw (known, read, later) refl

pub no-kind : (field : FieldDef) (others : List FieldDef) (bytes : List ℕ) → kind_of field.code ≡ None → values_at (field ∷ others) bytes ≡ Err DoesNotFit
unfolding values_at
no-kind field others bytes unknown = rw unknown refl

pub no-value : (field : FieldDef) (others : List FieldDef) (bytes : List ℕ) (kind : FieldKind) → kind_of field.code ≡ Some kind → value_at kind bytes ≡ Err DoesNotFit → values_at (field ∷ others) bytes ≡ Err DoesNotFit
unfolding values_at
no-value field others bytes kind known misfit = rw (known, misfit) refl

pub going-on : (fields : List FieldDef) (payload old : List ℕ) (field : FieldDef) (others : List FieldDef) (bytes next : List ℕ) (opened : ℕ) (out named now : List ℕ) (kind : FieldKind) (value : FieldValue)
    → Going fields payload old (field ∷ others) bytes opened out → kind_of field.code ≡ Some kind → value_at kind bytes ≡ Ok (value, next)
    → named ≡ out ++ field_name opened field → Appends (IsShown value) named now
    → Going fields payload old others next (deepest_after field) now
going-on fields payload old field others bytes next opened out named now kind value going known read name (shown, is, put) =
    let here = field_name opened field in
    record {
      text = going.text ++ (here ++ shown);
      put = put
          ∙ ap (λ (xs : List ℕ). xs ++ shown) name
          ∙ append_assoc out here shown
          ∙ ap (λ (xs : List ℕ). xs ++ (here ++ shown)) going.put
          ∙ append_assoc old going.text (here ++ shown);
      goes = λ values rest e.
          let all = going.goes (value ∷ values) rest (values-on field others bytes next rest kind value values known read e) in (
            all.0,
            all.1,
            λ more are.
                subst (λ (text : List ℕ). AreFields 0 fields all.0 text) (sym (append_assoc going.text (here ++ shown) more))
                (all.2 ((here ++ shown) ++ more) (shown, more, is, are, refl)),
          );
      stops = λ e. going.stops (values-off field others bytes next kind value known read e);
    }

-- ---- the end

-- What stood before the fields stands.
going-keeps : (fields : List FieldDef) (payload old : List ℕ) (left : List FieldDef) (bytes : List ℕ) (opened : ℕ) (out : List ℕ) → Going fields payload old left bytes opened out → Keeps old out
going-keeps fields payload old left bytes opened out going = ap (λ (xs : List ℕ). take (length old) xs) going.put ∙ take-append_seam old going.text

misfit-puts : (fields : List FieldDef) (payload old out : List ℕ) → payload_at fields payload ≡ Err DoesNotFit → Keeps old out → PutsValues fields (payload_at fields payload) false old out
misfit-puts fields payload old out e keeps = rw e keeps

-- A field has no value in the payload.
pub ends-misfit : (fields : List FieldDef) (payload old : List ℕ) (left : List FieldDef) (bytes : List ℕ) (opened : ℕ) (out : List ℕ)
    → Going fields payload old left bytes opened out → values_at left bytes ≡ Err DoesNotFit → PutsValues fields (payload_at fields payload) false old out
ends-misfit fields payload old left bytes opened out going misfit =
    let none : values_at fields payload ≡ Err DoesNotFit = going.stops misfit in
    misfit-puts fields payload old out (rw none refl) (going-keeps fields payload old left bytes opened out going)

pub no-fields : (bytes : List ℕ) → values_at [] bytes ≡ Ok ([], bytes)
unfolding values_at
no-fields bytes = refl

-- Bytes are left over.
pub ends-over : (fields : List FieldDef) (payload old bytes : List ℕ) (opened : ℕ) (out : List ℕ)
    → Going fields payload old [] bytes opened out → eqb (length bytes) 0 ≡ false → PutsValues fields (payload_at fields payload) false old out
ends-over fields payload old bytes opened out going some =
    let all = going.goes [] bytes (no-fields bytes) in
    let read : values_at fields payload ≡ Ok (all.0, bytes) = all.1 in
    misfit-puts fields payload old out (rw (read, some) refl) (going-keeps fields payload old [] bytes opened out going)

-- All fields have their values, and no bytes are left.
pub ends-all : (fields : List FieldDef) (payload old bytes : List ℕ) (opened : ℕ) (out now : List ℕ)
    → Going fields payload old [] bytes opened out → eqb (length bytes) 0 ≡ true → now ≡ out ++ closes opened → PutsValues fields (payload_at fields payload) true old now
ends-all fields payload old bytes opened out now going none put =
    let all = going.goes [] bytes (no-fields bytes) in
    let read : values_at fields payload ≡ Ok (all.0, bytes) = all.1 in
    let fits : payload_at fields payload ≡ Ok all.0 = rw (read, none) refl in
    rw fits (
      going.text ++ closes opened,
      all.2 (closes opened) refl,
      put ∙ ap (λ (xs : List ℕ). xs ++ closes opened) going.put ∙ append_assoc old going.text (closes opened),
    )
