-- Objects that are open.
use Rattle.std.proofs.Common.{◌≡◌, ℕ, suc, ◌-◌, ◌≤◌, ◌<◌, Bool, true, false, List, [], ◌∷◌, ◌++◌, length, Some, None, inl, inr, refl, sym, ap, ◌∙◌, subst, append_assoc, length-append, arith}
use Rattle.std.specs.Prelude.{codes, nat_lt, replicate, reverse, map, slice_get, Option, IsSome}
use Rattle.std.specs.Option.{option_to_list}
use Rattle.std.proofs.lemmas.List.{reverse-append}
use Rattle.std.proofs.lemmas.Option.{slice_get_cases}
use Rattle.pt_lines.specs.Json.{commas, inside, outside, named as member_of, object, placed}
use Rattle.pt_lines.specs.state.Nest.{Adds, Closes, after, coming, comma, still}
use Rattle.pt_lines.specs.Texts.{quoted}
use Rattle.ep_defs.specs.declared.event.FieldDef.{FieldDef}
use Rattle.pt_lines.specs.declared.json.nest.Nest.{Nest}

-- A member and those behind it.
pub after-one : (first : Bool) (text : List ℕ) (texts : List (List ℕ)) → after first (text ∷ texts) ≡ (comma first ++ text) ++ after false texts
after-one true text texts = refl
after-one false text texts = refl

pub after-none : (first : Bool) → after first [] ≡ []
after-none true = refl
after-none false = refl

not-below : (depth last : ℕ) → depth ≤ last → nat_lt last depth ≡ false
not-below depth last le = grind arith

below : (depth last : ℕ) → last < depth → nat_lt last depth ≡ true
below depth last lt = grind arith

-- ---- the innermost object

reversed : (front : List ℕ) (last : ℕ) → reverse (front ++ last ∷ []) ≡ last ∷ reverse front
reversed front last = reverse-append front (last ∷ [])

closed-one : (last depth : ℕ) (depths : List ℕ) (first : Bool) (text : List ℕ) (behind : List (ℕ × List ℕ)) → nat_lt last depth ≡ false
    → codes "}" ++ coming depths false ((depth, text) ∷ behind) ≡ coming (last ∷ depths) first ((depth, text) ∷ behind)
closed-one last depth depths true text behind e = rw e refl
closed-one last depth depths false text behind e = rw e refl

-- A field that stands outside it ends it.
pub left-one : (front : List ℕ) (last depth : ℕ) (first : Bool) → depth ≤ last → (text : List ℕ) (behind : List (ℕ × List ℕ))
    → codes "}" ++ coming (reverse front) false ((depth, text) ∷ behind) ≡ coming (reverse (front ++ last ∷ [])) first ((depth, text) ∷ behind)
left-one front last depth first le text behind =
    closed-one last depth (reverse front) first text behind (not-below depth last le)
    ∙ ap (λ (depths : List ℕ). coming depths first ((depth, text) ∷ behind)) (sym (reversed front last))

last-of : (front : List ℕ) (one last : ℕ) → slice_get (front ++ one ∷ []) (length (front ++ one ∷ []) - 1) ≡ Some last → one ≡ last
last-of [] one last e = cc
last-of (x ∷ front) one last e =
    let before : length (x ∷ front ++ one ∷ []) - 1 ≡ suc (length (front ++ one ∷ []) - 1) = omega (arith, length-append front (one ∷ [])) in
    last-of front one last (subst (λ (k : ℕ). slice_get (x ∷ front ++ one ∷ []) k ≡ Some last) before e)

-- The innermost object was left for such a field.
pub popped : (items front : List ℕ) (result : Option ℕ) (last depth : ℕ) (first : Bool) → IsSome result → items ≡ front ++ option_to_list result → slice_get items (length items - 1) ≡ Some last → depth ≤ last
    → (length front < length items)
    × ((text : List ℕ) (behind : List (ℕ × List ℕ)) → codes "}" ++ coming (reverse front) false ((depth, text) ∷ behind) ≡ coming (reverse items) first ((depth, text) ∷ behind))
popped items front None last depth first some split found le = absurd (cc)
popped items front (Some one) last depth first some split found le =
    let whole = subst (λ (xs : List ℕ). slice_get xs (length xs - 1) ≡ Some last) split found in
    let same : one ≡ last = last-of front one last whole in (
      subst (λ (xs : List ℕ). length front < length xs) (sym split) (omega (arith, length-append front (one ∷ []))),
      λ text behind.
          left-one front one depth first (subst (λ (n : ℕ). depth ≤ n) (sym same) le) text behind
          ∙ ap (λ (xs : List ℕ). coming (reverse xs) first ((depth, text) ∷ behind)) (sym split),
    )

-- Without objects each field stands where it is put.
pub stands-outermost : (depth : ℕ) (first : Bool) (text : List ℕ) (behind : List (ℕ × List ℕ))
    → coming [] first ((depth, text) ∷ behind) ≡ (comma first ++ text) ++ coming [] false behind
stands-outermost depth first text behind = after-one first text (map (λ member. member.1) behind)

stands-deeper : (last depth : ℕ) (depths : List ℕ) (first : Bool) (text : List ℕ) (behind : List (ℕ × List ℕ)) → nat_lt last depth ≡ true
    → coming (last ∷ depths) first ((depth, text) ∷ behind) ≡ (comma first ++ text) ++ coming (last ∷ depths) false behind
stands-deeper last depth depths first text behind e =
    let rest = codes "}" ++ coming depths false (outside last behind) in
    let here : coming (last ∷ depths) first ((depth, text) ∷ behind) ≡ after first (text ∷ inside last behind) ++ rest = rw e refl in
    here
    ∙ ap (λ (xs : List ℕ). xs ++ rest) (after-one first text (inside last behind))
    ∙ append_assoc (comma first ++ text) (after false (inside last behind)) rest

-- A field that is deeper stands in the innermost object.
pub stands-inside : (front : List ℕ) (last depth : ℕ) (first : Bool) → last < depth → (text : List ℕ) (behind : List (ℕ × List ℕ))
    → coming (reverse (front ++ last ∷ [])) first ((depth, text) ∷ behind) ≡ (comma first ++ text) ++ coming (reverse (front ++ last ∷ [])) false behind
stands-inside front last depth first lt text behind =
    let turned = reversed front last in
    ap (λ (depths : List ℕ). coming depths first ((depth, text) ∷ behind)) turned
    ∙ stands-deeper last depth (reverse front) first text behind (below depth last lt)
    ∙ ap (λ (depths : List ℕ). (comma first ++ text) ++ coming depths false behind) (sym turned)

-- ---- the depths

longer : (x : ℕ) (ys front : List ℕ) (last : ℕ) → ys ≡ front ++ last ∷ [] → (more : List ℕ) × (x ∷ ys ≡ more ++ last ∷ [])
longer x ys front last e = (x ∷ front, ap (λ (zs : List ℕ). x ∷ zs) e)

-- The last of some numbers.
pub last-is : (xs : List ℕ) (last : ℕ) → slice_get xs (length xs - 1) ≡ Some last → (front : List ℕ) × (xs ≡ front ++ last ∷ [])
last-is [] last e = absurd (cc)
last-is (x ∷ []) last e = let same : x ≡ last = cc in ([], ap (λ (y : ℕ). y ∷ []) same)
last-is (x ∷ y ∷ xs) last e =
    let before : length (x ∷ y ∷ xs) - 1 ≡ suc (length (y ∷ xs) - 1) = omega arith in
    let more = last-is (y ∷ xs) last (subst (λ (k : ℕ). slice_get (x ∷ y ∷ xs) k ≡ Some last) before e) in
    longer x (y ∷ xs) more.0 last more.1

pub none-last : (xs : List ℕ) → slice_get xs (length xs - 1) ≡ None → xs ≡ []
none-last [] e = refl
none-last (x ∷ xs) e =
    elim (slice_get_cases (x ∷ xs) (length (x ∷ xs) - 1)).1 [
      | inl (y, within, some, same) ↦ absurd (cc)
      | inr (past, none) ↦ absurd (omega (arith, past))
    ]

-- ---- the ends

ended : (depths : List ℕ) (first : Bool) → coming depths first [] ≡ replicate (length depths) 125
ended [] true = refl
ended [] false = refl
ended (depth ∷ depths) true = ap (λ (xs : List ℕ). 125 ∷ xs) (ended depths false)
ended (depth ∷ depths) false = ap (λ (xs : List ℕ). 125 ∷ xs) (ended depths false)

-- Without a member more each object ends.
pub all-ended : (depths : List ℕ) (first : Bool) → length (reverse depths) ≡ length depths → coming (reverse depths) first [] ≡ replicate (length depths) 125
all-ended depths first same = ended (reverse depths) first ∙ ap (λ (n : ℕ). replicate n 125) same

-- ---- a field

-- A text was put behind its name.
pub text-placed : (field : FieldDef) (text : List ℕ) (first : Bool) (depths : List ℕ) (piece : List ℕ) (behind : List (ℕ × List ℕ)) (before : List ℕ)
    → piece ++ coming depths first ((field.depth, member_of field text) ∷ behind) ≡ before
    → coming depths first ((field.depth, member_of field text) ∷ behind) ≡ (comma first ++ member_of field text) ++ coming depths false behind
    → (piece ++ (comma first ++ member_of field text)) ++ coming depths false behind ≡ before
text-placed field text first depths piece behind before closed stands =
    append_assoc piece (comma first ++ member_of field text) (coming depths false behind) ∙ ap (λ (xs : List ℕ). piece ++ xs) (sym stands) ∙ closed

opened : (before name inner rest : List ℕ) → ((before ++ name ++ codes ":") ++ codes "{") ++ (inner ++ (codes "}" ++ rest)) ≡ (before ++ (name ++ codes ":" ++ (codes "{" ++ inner ++ codes "}"))) ++ rest
opened before name inner rest = simp append_assoc

-- An object was opened behind its name.
pub object-placed : (field : FieldDef) (first : Bool) (depths : List ℕ) (piece : List ℕ) (behind : List (ℕ × List ℕ)) (before : List ℕ)
    → piece ++ coming depths first (placed field None behind) ≡ before
    → coming depths first (placed field None behind) ≡ (comma first ++ member_of field (object (inside field.depth behind))) ++ coming depths false (outside field.depth behind)
    → (piece ++ ((comma first ++ quoted field.name ++ codes ":") ++ codes "{")) ++ coming (field.depth ∷ depths) true behind ≡ before
object-placed field first depths piece behind before closed stands =
    let start = (comma first ++ quoted field.name ++ codes ":") ++ codes "{" in
    append_assoc piece start (coming (field.depth ∷ depths) true behind)
    ∙ ap (λ (xs : List ℕ). piece ++ xs)
    (opened (comma first) (quoted field.name) (commas (inside field.depth behind)) (coming depths false (outside field.depth behind)) ∙ sym stands)
    ∙ closed

behind-comma : (old : List ℕ) (first : Bool) (name : List ℕ) → old ++ comma first ++ quoted name ++ codes ":" ≡ old ++ (comma first ++ quoted name ++ codes ":")
behind-comma old first name = simp append_assoc

open-as : (field : FieldDef) (mid new : Nest) (behind : List (ℕ × List ℕ)) → new.depths.items ≡ mid.depths.items ++ field.depth ∷ [] → new.is_first ≡ true → still new behind ≡ coming (field.depth ∷ reverse mid.depths.items) true behind
open-as field mid new behind depths first =
    ap (λ (f : Bool). coming (reverse new.depths.items) f behind) first
    ∙ ap (λ (xs : List ℕ). coming xs true behind) (ap (λ (xs : List ℕ). reverse xs) depths ∙ reversed mid.depths.items field.depth)

-- A field that is an object was put.
pub add-object : (field : FieldDef) (old mid new : Nest) (before closed named now : List ℕ) → Closes field.depth old mid before closed
    → named ≡ closed ++ comma mid.is_first ++ quoted field.name ++ codes ":"
    → new.depths.items ≡ mid.depths.items ++ field.depth ∷ [] → new.is_first ≡ true → now ≡ named ++ codes "{"
    → Adds field None old new before now
add-object field old mid new before closed named now (piece, put, closes, stands) name depths first end =
    let start = comma mid.is_first ++ quoted field.name ++ codes ":" in (
      piece ++ (start ++ codes "{"),
      end
          ∙ ap (λ (xs : List ℕ). xs ++ codes "{") (name ∙ behind-comma closed mid.is_first field.name ∙ ap (λ (xs : List ℕ). xs ++ start) put)
          ∙ append_assoc (before ++ piece) start (codes "{")
          ∙ append_assoc before piece (start ++ codes "{"),
      λ behind.
          let inner = object (inside field.depth behind) in
          ap (λ (xs : List ℕ). (piece ++ (start ++ codes "{")) ++ xs) (open-as field mid new behind depths first)
          ∙ object-placed field mid.is_first (reverse mid.depths.items) piece behind _ (closes (member_of field inner) (outside field.depth behind)) (stands (member_of field inner) (outside field.depth behind)),
    )

filled-as : (mid new : Nest) (behind : List (ℕ × List ℕ)) → new.depths.items ≡ mid.depths.items → new.is_first ≡ false → still new behind ≡ coming (reverse mid.depths.items) false behind
filled-as mid new behind depths first =
    ap (λ (f : Bool). coming (reverse new.depths.items) f behind) first ∙ ap (λ (xs : List ℕ). coming (reverse xs) false behind) depths

-- A field with a text was put.
pub add-text : (field : FieldDef) (text : List ℕ) (old mid new : Nest) (before closed named now : List ℕ) → Closes field.depth old mid before closed
    → named ≡ closed ++ comma mid.is_first ++ quoted field.name ++ codes ":"
    → new.depths.items ≡ mid.depths.items → new.is_first ≡ false → now ≡ named ++ text
    → Adds field (Some text) old new before now
add-text field text old mid new before closed named now (piece, put, closes, stands) name depths first end =
    let start = comma mid.is_first ++ quoted field.name ++ codes ":" in
    let whole = comma mid.is_first ++ member_of field text in
    let joined : start ++ text ≡ whole = simp append_assoc in (
      piece ++ whole,
      end
          ∙ ap (λ (xs : List ℕ). xs ++ text) (name ∙ behind-comma closed mid.is_first field.name ∙ ap (λ (xs : List ℕ). xs ++ start) put)
          ∙ append_assoc (before ++ piece) start text
          ∙ ap (λ (xs : List ℕ). (before ++ piece) ++ xs) joined
          ∙ append_assoc before piece whole,
      λ behind.
          ap (λ (xs : List ℕ). (piece ++ whole) ++ xs) (filled-as mid new behind depths first)
          ∙ text-placed field text mid.is_first (reverse mid.depths.items) piece behind _ (closes (member_of field text) behind) (stands (member_of field text) behind),
    )
