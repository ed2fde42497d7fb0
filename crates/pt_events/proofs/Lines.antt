-- The lines of one item more.
use Rattle.std.proofs.Common.{◌≡◌, ℕ, List, [], ◌∷◌, ◌++◌, refl, sym, ap, ◌∙◌, subst, append_assoc}
use Rattle.std.proofs.lemmas.List.{append-nil}
use Rattle.std.specs.List.{flat_map}
use Rattle.ep_defs.specs.declared.item.ItemKind.{ItemKind}
use Rattle.ep_defs.specs.Gaps.{Sighting}
use Rattle.nt_blocks.specs.Ordered.{Names, no_names, names_after}
use Rattle.nt_check.specs.state.Took.{names_at}
use Rattle.pt_lines.specs.declared.origin.Origin.{Origin}
use Rattle.pt_lines.specs.Line.{Line, lost_if}
use Rattle.pt_events.specs.Lines.{sighted, last_of, left_out, lost_lines, origin_after, unsaid, item_lines, lines_after, lines_of}
use Rattle.pt_events.specs.state.Listed.{origin_at}
use Rattle.pt_lines.specs.declared.form.Form.{Form}
use Rattle.pt_lines.specs.Forms.{AreLines}
use Rattle.pt_lines.proofs.Lines.{lines-append}

-- The lines after these names and numbers.
lines_after-more : (names : Names) (past : List (ℕ × Sighting)) (origin : Origin) (kinds : List ItemKind) (kind : ItemKind) → lines_after names past origin (kinds ++ kind ∷ []) ≡ lines_after names past origin kinds ++ item_lines (names_at names kinds) (past ++ flat_map sighted kinds) (origin_at origin kinds) kind
lines_after-more names past origin [] kind =
    append-nil (item_lines names past origin kind) ∙ ap (λ (p : List (ℕ × Sighting)). item_lines names p origin kind) (sym (append-nil past))
lines_after-more names past origin (first ∷ kinds) kind =
    let here = item_lines names past origin first in
    let later = names_after names first in
    let now = past ++ sighted first in
    let said = origin_after origin first in
    ap (λ (lines : List Line). here ++ lines) (lines_after-more later now said kinds kind)
    ∙ sym (append_assoc here (lines_after later now said kinds) (item_lines (names_at later kinds) (now ++ flat_map sighted kinds) (origin_at said kinds) kind))
    ∙ ap (λ (p : List (ℕ × Sighting)). (here ++ lines_after later now said kinds) ++ item_lines (names_at later kinds) p (origin_at said kinds) kind) (append_assoc past (sighted first) (flat_map sighted kinds))

-- The lines of all items are those of the items before, and those of the last one.
pub lines_of-more : (kinds : List ItemKind) (kind : ItemKind) → lines_of (kinds ++ kind ∷ []) ≡ lines_of kinds ++ item_lines (names_at no_names kinds) (flat_map sighted kinds) (origin_at unsaid kinds) kind
lines_of-more kinds kind = lines_after-more no_names [] unsaid kinds kind

-- What a stream has said of the program after one item more.
pub origin_at-more : (origin : Origin) (kinds : List ItemKind) (kind : ItemKind) → origin_at origin (kinds ++ kind ∷ []) ≡ origin_after (origin_at origin kinds) kind
origin_at-more origin [] kind = refl
origin_at-more origin (first ∷ kinds) kind = origin_at-more (origin_after origin first) kinds kind

pub listed-more : (form : Form) (kinds : List ItemKind) (kind : ItemKind) (text more : List ℕ) → AreLines form (lines_of kinds) text → AreLines form (item_lines (names_at no_names kinds) (flat_map sighted kinds) (origin_at unsaid kinds) kind) more → AreLines form (lines_of (kinds ++ kind ∷ [])) (text ++ more)
listed-more form kinds kind text more before now =
    subst (λ (lines : List Line). AreLines form lines (text ++ more)) (sym (lines_of-more kinds kind))
    (lines-append form (lines_of kinds) (item_lines (names_at no_names kinds) (flat_map sighted kinds) (origin_at unsaid kinds) kind) text more before now)

-- What is lost at one number more.
pub lost-more : (origin : Origin) (stamp : ℕ) (past seen : List (ℕ × Sighting)) (s : ℕ × Sighting) → lost_lines origin stamp past (seen ++ s ∷ []) ≡ lost_lines origin stamp past seen ++ lost_if origin stamp s.0 (left_out (last_of s.0 (past ++ seen)) s.1)
lost-more origin stamp past [] s =
    append-nil (lost_if origin stamp s.0 (left_out (last_of s.0 past) s.1))
    ∙ ap (λ (p : List (ℕ × Sighting)). lost_if origin stamp s.0 (left_out (last_of s.0 p) s.1)) (sym (append-nil past))
lost-more origin stamp past (first ∷ seen) s =
    let here = lost_if origin stamp first.0 (left_out (last_of first.0 past) first.1) in
    let now = past ++ first ∷ [] in
    let last = λ (p : List (ℕ × Sighting)). lost_if origin stamp s.0 (left_out (last_of s.0 p) s.1) in
    ap (λ (lines : List Line). here ++ lines) (lost-more origin stamp now seen s)
    ∙ sym (append_assoc here (lost_lines origin stamp now seen) (last (now ++ seen)))
    ∙ ap (λ (p : List (ℕ × Sighting)). (here ++ lost_lines origin stamp now seen) ++ last p) (append_assoc past (first ∷ []) seen)

-- What is lost at one number.
pub lost-one : (origin : Origin) (stamp : ℕ) (past : List (ℕ × Sighting)) (s : ℕ × Sighting) → lost_lines origin stamp past (s ∷ []) ≡ lost_if origin stamp s.0 (left_out (last_of s.0 past) s.1)
lost-one origin stamp past s = append-nil (lost_if origin stamp s.0 (left_out (last_of s.0 past) s.1))
