-- The steps that were made and those that are still to come are the whole schedule.
use Rattle.std.proofs.Common.{◌≡◌, ◌≤◌, ◌∷◌, ◌++◌, List, [], Option, Some, None, length, reverse, append_assoc, length-append, sym, ap, subst, ◌∙◌, arith}
use Rattle.std.proofs.lemmas.List.{append-nil, reverse-append, reverse-reverse, length-reverse}
use Rattle.ep_model.specs.declared.step.Step.{Step}
use Rattle.ep_model.specs.History.{Past}
use Rattle.ep_model.specs.Lawful.{IsLawful}
use Rattle.pt_load.specs.Sample.{sample}
use Rattle.pt_gen.specs.Schedule.{Gives}

-- One step more was made.
pub one_more : (all : List Step) (past : Past) (step : Step) (now later : List Step) → all ≡ reverse past ++ now → now ≡ step ∷ later
    → all ≡ reverse (step ∷ past) ++ later
one_more all past step now later is first =
    is ∙ ap (λ xs. reverse past ++ xs) first
    ∙ sym (ap (λ xs. xs ++ later) (reverse-append (step ∷ []) past) ∙ append_assoc (reverse past) (step ∷ []) later)

-- None is left.
pub all_made : (all : List Step) (past : Past) (left : List Step) → all ≡ reverse past ++ left → left ≡ [] → past ≡ reverse all
all_made all past left is none =
    sym (ap (λ (xs : List Step). reverse xs) (is ∙ ap (λ xs. reverse past ++ xs) none ∙ append-nil (reverse past)) ∙ reverse-reverse past)

-- No more were made than there are.
pub made_so_far : (all : List Step) (past : Past) (left : List Step) → all ≡ reverse past ++ left → length past ≤ length all
made_so_far all past left is =
    let count : length all ≡ length (reverse past ++ left) = ap (λ (xs : List Step). length xs) is in
    omega (arith, count, length-append (reverse past) left, length-reverse past)

-- The step that was given was the first.
pub given_some : (before : List Step) (given : Option Step) (after : List Step) (step : Step) → Gives before given after → given ≡ Some step
    → before ≡ step ∷ after
given_some before given after step gives is = subst (λ (g : Option Step). Gives before g after) is gives

-- None was given, since there was none.
pub given_none : (before : List Step) (given : Option Step) (after : List Step) → Gives before given after → given ≡ None → before ≡ []
given_none before given after gives is = (subst (λ (g : Option Step). Gives before g after) is gives).0

-- ---- several steps at once

-- Several steps more were made.
pub some_more : (all : List Step) (past : Past) (steps now later : List Step) → all ≡ reverse past ++ now → now ≡ steps ++ later
    → all ≡ reverse (reverse steps ++ past) ++ later
some_more all past steps now later is first =
    is ∙ ap (λ xs. reverse past ++ xs) first
    ∙ sym (ap (λ xs. xs ++ later) (reverse-append (reverse steps) past ∙ ap (λ xs. reverse past ++ xs) (reverse-reverse steps)) ∙ append_assoc (reverse past) steps later)

earlier_lawful : (later past : List Step) → IsLawful sample (later ++ past) → IsLawful sample past
earlier_lawful [] past lawful = lawful
earlier_lawful (step ∷ later) past lawful = earlier_lawful later past lawful.0

-- They can be made where the whole schedule can.
pub some_lawful : (all : List Step) (past : Past) (steps now later : List Step) → IsLawful sample (reverse all) → all ≡ reverse past ++ now → now ≡ steps ++ later
    → IsLawful sample (reverse steps ++ past)
some_lawful all past steps now later lawful is first =
    let whole = some_more all past steps now later is first in
    let turned : reverse all ≡ reverse later ++ (reverse steps ++ past) =
    ap (λ (xs : List Step). reverse xs) whole ∙ reverse-append (reverse (reverse steps ++ past)) later ∙ ap (λ xs. reverse later ++ xs) (reverse-reverse (reverse steps ++ past)) in
    earlier_lawful (reverse later) (reverse steps ++ past) (subst (IsLawful sample) turned lawful)
