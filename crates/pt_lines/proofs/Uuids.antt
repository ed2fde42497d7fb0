-- The texts of sixteen zeros.
use Rattle.std.proofs.Common.{◌≡◌, ℕ, List, [], ◌∷◌, ◌++◌, replicate, codes, refl, sym, ap, ◌∙◌, append_assoc, append-nil}
use Rattle.uuid.proofs.OnLiterals.{uuid_on_literals}
use Rattle.uuid.specs.Parts.{swap_fields}
use Rattle.uuid.specs.Text.{hyphenated_text, lower}
use Rattle.ep_defs.specs.Entry.{EventEntry}
use Rattle.pt_lines.specs.Json.{activity_members, behind_commas, definition_members, uuid_text}
use Rattle.pt_lines.specs.state.Pieces.{activities_text, alone_text, described_text}

pub zeros-text : codes "00000000-0000-0000-0000-000000000000" ≡ hyphenated_text lower (swap_fields (replicate 16 0))
unfolding uuid_on_literals
zeros-text = refl

-- The members of these two activities.
abbrev both : List ℕ → List ℕ → List ℕ
both activity related = behind_commas ((codes "\"activity\":" ++ uuid_text activity) ∷ (codes "\"related\":" ++ uuid_text related) ∷ [])

both-none : codes ",\"activity\":\"00000000-0000-0000-0000-000000000000\",\"related\":\"00000000-0000-0000-0000-000000000000\",\"stack\":" ≡ both (replicate 16 0) (replicate 16 0) ++ codes ",\"stack\":"
unfolding uuid_on_literals
both-none = refl

-- An event that belongs to no activity and is related to none is what stands for all such of its definition.
pub alone-is : (event : EventEntry) → event.activity ≡ replicate 16 0 → event.related ≡ replicate 16 0 → alone_text event.def ≡ described_text event
alone-is event activity related =
    let defs = behind_commas (definition_members event.def) in
    let key = codes ",\"stack\":" in
    ap (λ (xs : List ℕ). defs ++ xs)
    (both-none
    ∙ ap (λ (bytes : List ℕ). both bytes (replicate 16 0) ++ key) (sym activity)
    ∙ ap (λ (bytes : List ℕ). both event.activity bytes ++ key) (sym related))
    ∙ sym (append_assoc defs (behind_commas (activity_members event)) key)

-- Activities are put with the quotes around them.
pub activities-are : (activity related : List ℕ) → codes ",\"activity\":\"" ++ (hyphenated_text lower (swap_fields activity) ++ (codes "\",\"related\":\"" ++ (hyphenated_text lower (swap_fields related) ++ codes "\",\"stack\":"))) ≡ activities_text activity related
activities-are activity related =
    let first : List ℕ = hyphenated_text lower (swap_fields activity) in
    let second : List ℕ = hyphenated_text lower (swap_fields related) in
    ap (λ (xs : List ℕ). codes ",\"activity\":\"" ++ xs)
    (sym (append_assoc first (34 ∷ []) (codes ",\"related\":\"" ++ (second ++ codes "\",\"stack\":")))
    ∙ ap (λ (xs : List ℕ). (first ++ 34 ∷ []) ++ (codes ",\"related\":\"" ++ xs)) (sym (append_assoc second (34 ∷ []) (codes ",\"stack\":"))))

members-on : (first activity second related key : List ℕ) → first ++ (activity ++ (second ++ (related ++ key))) ≡ ((first ++ activity) ++ ((second ++ related) ++ [])) ++ key
members-on first activity second related key = simp (append_assoc, append-nil)

-- They are the members of an event's activities, and what names its stack.
pub members-are : (event : EventEntry) → activities_text event.activity event.related ≡ behind_commas (activity_members event) ++ codes ",\"stack\":"
members-are event = members-on (codes ",\"activity\":") (uuid_text event.activity) (codes ",\"related\":") (uuid_text event.related) (codes ",\"stack\":")
