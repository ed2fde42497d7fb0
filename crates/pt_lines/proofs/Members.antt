-- The members of a payload, put one after another.
use Rattle.std.proofs.Common.{◌≡◌, ℕ, List, [], ◌∷◌, ◌++◌, length, take, Result, true, false, eqb, Some, Ok, Err, refl, sym, ap, ◌∙◌, append_assoc}
use Rattle.std.specs.Prelude.{Option, map, codes}
use Rattle.std.proofs.Math.Seq.{take-append_seam}
use Rattle.hex.specs.Hex.{encode_lower}
use Rattle.pt_lines.specs.Appends.{Appends}
use Rattle.std.proofs.lemmas.List.{append-nil}
use Rattle.ep_defs.specs.declared.event.FieldDef.{FieldDef}
use Rattle.nt_fields.specs.declared.kind.FieldKind.{FieldKind}
use Rattle.nt_fields.specs.Kinds.{kind_of}
use Rattle.nt_fields.specs.Values.{FieldValue, Misfit, DoesNotFit, value_at, values_at, payload_at}
use Rattle.pt_lines.specs.declared.json.nest.Nest.{Nest}
use Rattle.pt_lines.specs.Json.{AreShownBy, IsShownBy, commas, in_quotes, members, members_of}
use Rattle.pt_lines.specs.state.Nest.{Adds, PutsMembers, still}
use Rattle.pt_lines.specs.state.Opening.{IsNextPayload, opening}
use Rattle.pt_lines.proofs.Going.{values-on, values-off, no-fields}

-- Of the fields some are put, and these are left, with these bytes and these open objects.
pub record Membering (fields : List FieldDef) (payload old : List ℕ) (left : List FieldDef) (bytes : List ℕ) (nest : Nest) (out : List ℕ) : Type 0 where
  pub text : List ℕ
  pub put : out ≡ old ++ text
  pub goes : (values : List FieldValue) (rest : List ℕ) (shown : List (Option (List ℕ))) → values_at left bytes ≡ Ok (values, rest) → AreShownBy values shown
      → (all : List FieldValue) × (every : List (Option (List ℕ))) × (values_at fields payload ≡ Ok (all, rest)) × AreShownBy all every
      × (text ++ still nest (members left shown) ≡ commas (members_of fields every))
  pub stops : values_at left bytes ≡ Err DoesNotFit → values_at fields payload ≡ Err DoesNotFit

-- Nothing is put yet, and nothing is open.
pub membering-none : (fields : List FieldDef) (payload old : List ℕ) (nest : Nest) → ((list : List (ℕ × List ℕ)) → still nest list ≡ commas (map (λ member. member.1) list))
    → Membering fields payload old fields payload nest old
membering-none fields payload old nest empty =
    record {
      text = [];
      put = sym (append-nil old);
      goes = λ values rest shown e are. (values, shown, e, are, empty (members fields shown));
      stops = λ e. e;
    }

pub membering-on : (fields : List FieldDef) (payload old : List ℕ) (field : FieldDef) (others : List FieldDef) (bytes next : List ℕ) (nest new : Nest) (out now : List ℕ) (kind : FieldKind) (value : FieldValue)
    → Membering fields payload old (field ∷ others) bytes nest out → kind_of field.code ≡ Some kind → value_at kind bytes ≡ Ok (value, next)
    → (shown : Option (List ℕ)) × IsShownBy value shown × Adds field shown nest new out now
    → Membering fields payload old others next new now
membering-on fields payload old field others bytes next nest new out now kind value going known read (shown, is, (piece, put, adds)) =
    record {
      text = going.text ++ piece;
      put = put ∙ ap (λ (xs : List ℕ). xs ++ piece) going.put ∙ append_assoc old going.text piece;
      goes = λ values rest more e are.
          let all = going.goes (value ∷ values) rest (shown ∷ more) (values-on field others bytes next rest kind value values known read e) (is, are) in (
            all.0,
            all.1,
            all.2,
            all.3,
            append_assoc going.text piece (still new (members others more))
                ∙ ap (λ (xs : List ℕ). going.text ++ xs) (adds (members others more))
                ∙ all.4,
          );
      stops = λ e. going.stops (values-off field others bytes next kind value known read e);
    }

misfit-puts : (fields : List FieldDef) (payload old rest out : List ℕ) → payload_at fields payload ≡ Err DoesNotFit → out ≡ old ++ rest → PutsMembers fields (payload_at fields payload) false old out
misfit-puts fields payload old rest out e put = rw e (rest, put)

-- A field has no value in the payload.
pub members-misfit : (fields : List FieldDef) (payload old : List ℕ) (left : List FieldDef) (bytes : List ℕ) (nest : Nest) (out : List ℕ)
    → Membering fields payload old left bytes nest out → values_at left bytes ≡ Err DoesNotFit → PutsMembers fields (payload_at fields payload) false old out
members-misfit fields payload old left bytes nest out going misfit =
    let none : values_at fields payload ≡ Err DoesNotFit = going.stops misfit in
    misfit-puts fields payload old going.text out (rw none refl) going.put

-- Bytes are left over.
pub members-over : (fields : List FieldDef) (payload old bytes : List ℕ) (nest : Nest) (out : List ℕ)
    → Membering fields payload old [] bytes nest out → eqb (length bytes) 0 ≡ false → PutsMembers fields (payload_at fields payload) false old out
members-over fields payload old bytes nest out going some =
    let all = going.goes [] bytes [] (no-fields bytes) tt in
    let read : values_at fields payload ≡ Ok (all.0, bytes) = all.2 in
    misfit-puts fields payload old going.text out (rw (read, some) refl) going.put

-- All fields have their values, and no bytes are left.
pub members-all : (fields : List FieldDef) (payload old bytes : List ℕ) (nest : Nest) (out now : List ℕ)
    → Membering fields payload old [] bytes nest out → eqb (length bytes) 0 ≡ true → now ≡ out ++ still nest [] → PutsMembers fields (payload_at fields payload) true old now
members-all fields payload old bytes nest out now going none put =
    let all = going.goes [] bytes [] (no-fields bytes) tt in
    let read : values_at fields payload ≡ Ok (all.0, bytes) = all.2 in
    let fits : payload_at fields payload ≡ Ok all.0 = rw (read, none) refl in
    rw fits (
      going.text ++ still nest [],
      (all.1, all.3, all.4),
      put ∙ ap (λ (xs : List ℕ). xs ++ still nest []) going.put ∙ append_assoc old going.text (still nest []),
    )

-- ---- a payload

-- Its fields were put.
pub payload-fits : (fields : List FieldDef) (payload : List ℕ) (answer : Result (List FieldValue) Misfit) (old mid now new : List ℕ) → PutsMembers fields answer true mid now → mid ≡ old ++ opening
    → new ≡ now ++ codes "}" → Appends (IsNextPayload fields payload answer) old new
payload-fits fields payload (Ok values) old mid now new (inner, are, put) start end =
    let member : List ℕ = codes "\"fields\":{" ++ inner ++ codes "}" in (
      codes "," ++ member,
      (member, (inner, are, refl), refl),
      end
          ∙ ap (λ (xs : List ℕ). xs ++ codes "}") (put ∙ ap (λ (xs : List ℕ). xs ++ inner) start)
          ∙ ap (λ (xs : List ℕ). xs ++ codes "}") (append_assoc old opening inner)
          ∙ append_assoc old (opening ++ inner) (codes "}"),
    )
payload-fits fields payload (Err misfit) old mid now new puts start end = absurd puts

-- It stands whole where they were to stand.
pub payload-misfits : (fields : List FieldDef) (payload : List ℕ) (answer : Result (List FieldValue) Misfit) (old mid now word new : List ℕ) → PutsMembers fields answer false mid now → mid ≡ old ++ opening
    → word ≡ take (length old) now ++ codes ",\"payload\":" → new ≡ word ++ in_quotes (encode_lower payload)
    → Appends (IsNextPayload fields payload answer) old new
payload-misfits fields payload (Ok values) old mid now word new puts start cut end = absurd puts
payload-misfits fields payload (Err misfit) old mid now word new (rest, put) start cut end =
    let kept : take (length old) now ≡ old =
    ap (λ (xs : List ℕ). take (length old) xs) (put ∙ ap (λ (xs : List ℕ). xs ++ rest) start ∙ append_assoc old opening rest)
    ∙ take-append_seam old (opening ++ rest) in (
      codes ",\"payload\":" ++ in_quotes (encode_lower payload),
      (codes "\"payload\":" ++ in_quotes (encode_lower payload), refl, refl),
      end
          ∙ ap (λ (xs : List ℕ). xs ++ in_quotes (encode_lower payload)) (cut ∙ ap (λ (xs : List ℕ). xs ++ codes ",\"payload\":") kept)
          ∙ append_assoc old (codes ",\"payload\":") (in_quotes (encode_lower payload)),
    )
