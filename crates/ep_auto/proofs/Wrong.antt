-- The first wrong field of a part, and of more parts.
use Rattle.std.proofs.Common.{◌≡◌, ◌+◌, ℕ, true, not, cond, List, [], ◌∷◌, ◌++◌, length, Option, Some, None, is_some, option_map, find, refl, sym, ap, ◌∙◌, arith}
use Rattle.std.proofs.lemmas.List.Folds.{find-append}
use Rattle.std.specs.Option.{option_or}
use Rattle.ep_defs.specs.declared.session.Rule.{Rule}
use Rattle.ep_plan.specs.Words.{provider_in, rule_of, with_first, all_in}
use Rattle.ep_auto.specs.declared.fault.AutoFault.{AutoFault}
use Rattle.ep_auto.specs.Fields.{Field, field_at, keywords_in, level_in, rule_in, fields_at, is_wrong, told, first_wrong}
use Rattle.ep_auto.specs.StartUp.{fields_from}

told-or : (a b : Option Field) → option_map told (option_or a b) ≡ option_or (option_map told a) (option_map told b)
told-or None b = refl
told-or (Some a) b = refl

wrong-append : (xs ys : List Field) → first_wrong (xs ++ ys) ≡ option_or (first_wrong xs) (first_wrong ys)
wrong-append xs ys = ap (option_map told) (find-append is_wrong xs ys) ∙ told-or (find is_wrong xs) (find is_wrong ys)

-- A wrong field goes before those after it.
pub wrong-here : (xs ys : List Field) (fault : AutoFault) → Some fault ≡ first_wrong xs → Some fault ≡ first_wrong (xs ++ ys)
wrong-here xs ys fault is = ap (λ o. option_or o (first_wrong ys)) is ∙ sym (wrong-append xs ys)

-- Where none is wrong, those after count.
pub wrong-later : (xs ys : List Field) → first_wrong xs ≡ None → first_wrong (xs ++ ys) ≡ first_wrong ys
wrong-later xs ys none = wrong-append xs ys ∙ ap (λ o. option_or o (first_wrong ys)) none

-- ---- a part

by-fields : (name : Option (List ℕ)) (keywords level : Option ℕ) (a b c : Field)
    → is_some (rule_of name keywords level) ≡ not (is_some (option_map told (cond (not (is_some name)) (Some a) (cond (not (is_some keywords)) (Some b) (cond (not (is_some level)) (Some c) None)))))
by-fields None None None a b c = refl
by-fields None None (Some z) a b c = refl
by-fields None (Some y) None a b c = refl
by-fields None (Some y) (Some z) a b c = refl
by-fields (Some x) None None a b c = refl
by-fields (Some x) None (Some z) a b c = refl
by-fields (Some x) (Some y) None a b c = refl
by-fields (Some x) (Some y) (Some z) a b c = refl

-- A part is a rule exactly where none of its fields is wrong.
pub part-either : (column : ℕ) (part : List ℕ) → is_some (rule_in part) ≡ not (is_some (first_wrong (fields_at column part)))
part-either column part = by-fields (provider_in (field_at 0 part)) (keywords_in (field_at 1 part)) (level_in (field_at 2 part)) _ _ _

none-by : (o : Option AutoFault) → true ≡ not (is_some o) → o ≡ None
none-by None is = refl
none-by (Some fault) is = cc

pub rule-right : (column : ℕ) (part : List ℕ) (rule : Rule) → Some rule ≡ rule_in part → first_wrong (fields_at column part) ≡ None
rule-right column part rule is = none-by (first_wrong (fields_at column part)) (ap is_some is ∙ part-either column part)

-- ---- all parts

both : {A : Type 0} (a : Option A) (b : Option (List A)) (c d : Option AutoFault) → is_some a ≡ not (is_some c) → is_some b ≡ not (is_some d) → is_some (with_first a b) ≡ not (is_some (option_or c d))
both None None None d one rest = cc
both None None (Some c) d one rest = refl
both None (Some b) None d one rest = cc
both None (Some b) (Some c) d one rest = refl
both (Some a) None None d one rest = rest
both (Some a) None (Some c) d one rest = cc
both (Some a) (Some b) None d one rest = rest
both (Some a) (Some b) (Some c) d one rest = cc

pub parts-either : (column : ℕ) (parts : List (List ℕ)) → is_some (all_in rule_in parts) ≡ not (is_some (first_wrong (fields_from column parts)))
parts-either column [] = refl
parts-either column (part ∷ parts) =
    both (rule_in part) (all_in rule_in parts) (first_wrong (fields_at column part)) (first_wrong (fields_from (column + length part + 1) parts))
    (part-either column part) (parts-either (column + length part + 1) parts)
    ∙ ap (λ o. not (is_some o)) (sym (wrong-append (fields_at column part) (fields_from (column + length part + 1) parts)))

-- The fields of a part that is a rule leave the question to those after it.
pub wrong-behind : (column : ℕ) (part : List ℕ) (parts : List (List ℕ)) (rule : Rule) → Some rule ≡ rule_in part
    → first_wrong (fields_from column (part ∷ parts)) ≡ first_wrong (fields_from (column + (length part + 1)) parts)
wrong-behind column part parts rule is =
    let same : column + length part + 1 ≡ column + (length part + 1) = omega arith in
    wrong-later (fields_at column part) (fields_from (column + length part + 1) parts) (rule-right column part rule is)
    ∙ ap (λ next. first_wrong (fields_from next parts)) same
