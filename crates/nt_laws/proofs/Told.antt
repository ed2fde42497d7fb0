-- The first of some ordered items are ordered, and tell the first entries.
use Rattle.std.proofs.Common.{◌≡◌, Result, Ok, Err, List, [], ◌∷◌, ◌++◌, refl, ap, sym, ◌∙◌, append_assoc}
use Rattle.std.proofs.lemmas.List.{map-append}
use Rattle.ep_defs.specs.declared.item.Item.{Item}
use Rattle.ep_defs.specs.declared.item.ItemKind.{ItemKind}
use Rattle.ep_defs.specs.Entry.{Entry}
use Rattle.pt_num.proofs.Steps.{bind_inv}
use Rattle.nt_blocks.specs.Ordered.{AreOrdered, Names, Tell, kinds_of, names_after, no_names, tell, told_after}
use Rattle.nt_laws.proofs.Units.{next}

-- Equal answers have equal values.
same : {E : Type 0} (x y : List Entry) → (let one : Result (List Entry) E = Ok x in one ≡ Ok y) → x ≡ y
same {E} x y e = ap value e
  where
    value : Result (List Entry) E → List Entry
    value (Ok z) = z
    value (Err fault) = []

-- The first kinds of some tell the first entries.
told-first : (names : Names) (first others : List ItemKind) (entries : List Entry) → told_after names (first ++ others) ≡ Ok entries → (told more : List Entry) × (told_after names first ≡ Ok told) × (entries ≡ told ++ more)
told-first names [] others entries e = ([], entries, refl, refl)
told-first names (kind ∷ first) others entries e =
    let one = bind_inv (tell names kind) _ entries e in
    let all = bind_inv (told_after (names_after names kind) (first ++ others)) _ entries one.2 in
    let later = told-first (names_after names kind) first others all.0 all.1 in (
      one.0 ++ later.0,
      later.1,
      next _ _ _ one.1 ∙ next _ _ _ later.2,
      sym (same (one.0 ++ all.0) entries all.2) ∙ ap (λ (es : List Entry). one.0 ++ es) later.3 ∙ sym (append_assoc one.0 later.0 later.1),
    )

-- Items that tell entries are in order.
pub told-ordered : (items : List Item) (entries : List Entry) → Tell items entries → AreOrdered items
told-ordered items entries told = rw told

-- The first items of some tell the first entries.
pub items-first : (items first others : List Item) (entries : List Entry) → items ≡ first ++ others → Tell items entries → (told more : List Entry) × Tell first told × (entries ≡ told ++ more)
items-first items first others entries all told =
    told-first no_names (kinds_of first) (kinds_of others) entries
    (ap (told_after no_names) (sym (map-append _ first others) ∙ ap kinds_of (sym all)) ∙ told)
