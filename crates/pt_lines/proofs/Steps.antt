-- What is put behind some bytes, one piece after another.
use Rattle.std.proofs.Common.{◌≡◌, ℕ, zero, suc, List, [], ◌∷◌, ◌++◌, Result, refl, sym, ap, ◌∙◌, subst, append_assoc}
use Rattle.std.specs.Prelude.{OnOk, codes}
use Rattle.ep_defs.specs.declared.event.FieldDef.{FieldDef}
use Rattle.ep_defs.specs.Entry.{EventEntry}
use Rattle.nt_fields.specs.Values.{payload_at}
use Rattle.pt_lines.specs.declared.form.Form.TheVariants as forms
use Rattle.pt_lines.specs.declared.origin.Origin.{Origin}
use Rattle.pt_lines.specs.Line.{Event}
use Rattle.pt_lines.specs.Texts.{IsPayload, event_start, closes}
use Rattle.pt_lines.specs.Forms.{IsLine}
use Rattle.pt_lines.specs.Json.{IsPayloadMember}
use Rattle.pt_lines.specs.Page.{next_item}
use Rattle.std.specs.List.{concat}
use Rattle.std.proofs.lemmas.List.{append-nil}
use Rattle.std.proofs.lemmas.Result.{on_ok_weaker}
use Rattle.pt_lines.specs.Appends.{Appends}

-- Where a text was put for which this holds, such a text was put.
pub said : {E A : Type 0} (P : List ℕ → Type 0) (answer : Result A E) (old new text : List ℕ) → P text → OnOk answer (new ≡ old ++ text) → OnOk answer (Appends P old new)
said P answer old new text is put = on_ok_weaker answer (λ e. (text, is, e)) put

-- So it is with a text that is known.
pub said-eq : {E A : Type 0} (answer : Result A E) (old new text : List ℕ) → OnOk answer (new ≡ old ++ text) → OnOk answer ((t : List ℕ) × (t ≡ text) × (new ≡ old ++ t))
said-eq answer old new text put = on_ok_weaker answer (λ e. (text, refl, e)) put

-- And with an object that is known, as an item of a page.
pub item-put : {E A : Type 0} (answer : Result A E) (old new object : List ℕ) → OnOk answer (new ≡ old ++ next_item object)
    → OnOk answer (Appends (λ (text : List ℕ). (o : List ℕ) × (o ≡ object) × (text ≡ next_item o)) old new)
item-put answer old new object put = on_ok_weaker answer (λ e. (next_item object, (object, refl, refl), e)) put

-- Nothing is put.
pub nothing : (P : List ℕ → Type 0) (old : List ℕ) → P [] → Appends P old old
nothing P old is = ([], is, sym (append-nil old))

-- Two pieces are put.
pub both : (P Q R : List ℕ → Type 0) (old mid new : List ℕ) → ((a b : List ℕ) → P a → Q b → R (a ++ b)) → Appends P old mid → Appends Q mid new → Appends R old new
both P Q R old mid new joined (a, first, here) (b, second, there) =
    (a ++ b, joined a b first second, there ∙ ap (λ (xs : List ℕ). xs ++ b) here ∙ append_assoc old a b)

-- The end of one object more.
pub closes-more : (count : ℕ) → closes (suc count) ≡ closes count ++ codes " }"
closes-more zero = refl
closes-more (suc count) =
    ap (λ (rest : List ℕ). codes " }" ++ rest) (closes-more count) ∙ sym (append_assoc (codes " }") (closes count) (codes " }"))

-- The line of an event was put.
pub event-put : (origin : Origin) (processor thread : ℕ) (event : EventEntry) (fields : List FieldDef) (payload old start mid new : List ℕ) → fields ≡ event.def.fields → payload ≡ event.payload → start ≡ old ++ event_start event → Appends (IsPayload fields payload (payload_at fields payload)) start mid → new ≡ mid ++ 10 ∷ [] → Appends (IsLine forms.Lines (Event origin processor thread event)) old new
event-put origin processor thread event fields payload old start mid new same said begun (text, is, put) end =
    let told : IsPayload event.def.fields event.payload (payload_at event.def.fields event.payload) text =
    subst (λ (p : List ℕ). IsPayload event.def.fields p (payload_at event.def.fields p) text) said
    (subst (λ (f : List FieldDef). IsPayload f payload (payload_at f payload) text) same is) in (
      event_start event ++ text ++ 10 ∷ [],
      (text, told, refl),
      end
          ∙ ap (λ (xs : List ℕ). xs ++ 10 ∷ []) (put ∙ ap (λ (xs : List ℕ). xs ++ text) begun ∙ append_assoc old (event_start event) text)
          ∙ append_assoc old (event_start event ++ text) (10 ∷ []),
    )

-- The member of a payload is that of the event's.
pub payload-of : (fields : List FieldDef) (payload : List ℕ) (same : List FieldDef) (bytes member : List ℕ) → fields ≡ same → payload ≡ bytes
    → IsPayloadMember fields payload (payload_at fields payload) member → IsPayloadMember same bytes (payload_at same bytes) member
payload-of fields payload same bytes member same_fields same_payload is =
    subst (λ (p : List ℕ). IsPayloadMember same p (payload_at same p) member) same_payload
    (subst (λ (f : List FieldDef). IsPayloadMember f payload (payload_at f payload) member) same_fields is)

-- ---- pieces

-- A piece more.
pub then : {mid text new : List ℕ} (piece : List ℕ) → mid ≡ text → new ≡ mid ++ piece → new ≡ text ++ piece
then piece before now = now ∙ ap (λ (xs : List ℕ). xs ++ piece) before

-- So it is where the piece is told otherwise.
pub then-by : {A : Type 0} {mid text new : List ℕ} (f : A → List ℕ) (x y : A) → x ≡ y → mid ≡ text → new ≡ mid ++ f x → new ≡ text ++ f y
then-by {A} {mid} {text} {new} f x y same before now = then (f y) before (subst (λ (z : A). new ≡ mid ++ f z) same now)

-- Pieces behind a text, one after another.
abbrev pub behind : List ℕ → List (List ℕ) → List ℕ
behind old [] = old
behind old (piece ∷ pieces) = behind (old ++ piece) pieces

-- They are one piece.
pub onto : (old : List ℕ) (pieces : List (List ℕ)) → behind old pieces ≡ old ++ concat pieces
onto old [] = sym (append-nil old)
onto old (piece ∷ pieces) = onto (old ++ piece) pieces ∙ append_assoc old piece (concat pieces)

-- An object was closed, and its line.
pub closed : {mid new : List ℕ} (old text : List ℕ) → mid ≡ old ++ text → new ≡ mid ++ codes "}\n" → new ≡ old ++ (text ++ codes "}" ++ 10 ∷ [])
closed old text before end =
    end
    ∙ ap (λ (xs : List ℕ). xs ++ codes "}\n") before
    ∙ append_assoc old text (codes "}\n")
    ∙ ap (λ (xs : List ℕ). old ++ xs) (sym (append_assoc text (codes "}") (10 ∷ [])))
