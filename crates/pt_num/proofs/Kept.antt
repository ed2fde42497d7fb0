-- What stays of a list to which is appended.
use Rattle.std.proofs.Common.{◌≡◌, ℕ, ◌≤◌, Result, Ok, Err, List, ◌++◌, length, take, drop, sym, ap, ◌∙◌, arith}
use Rattle.std.proofs.lemmas.List.{length-take, take-append-le, take-append-drop}
use Rattle.std.specs.Result.{OnErr}
use Rattle.pt_num.specs.Begins.{Keeps}

-- What a list keeps is kept by one that keeps the list.
pub Keeps-trans : (before now after : List ℕ) → Keeps before now → Keeps now after → Keeps before after
Keeps-trans before now after first second =
    let short : length before ≤ length now = omega (arith, ap length first, length-take (length before) now) in
    let front : now ++ drop (length now) after ≡ after = rw second at (take-append-drop (length now) after) in
    ap (λ (xs : List ℕ). take (length before) xs) (sym front)
    ∙ take-append-le (length before) now (drop (length now) after) short
    ∙ first

-- What stays on an error.
pub on_error : {A E : Type 0} (r : Result A E) {P : Type 0} → P → OnErr r P
on_error (Ok a) p = tt
on_error (Err e) p = p

-- Where a later piece is put in part, what was put before stays.
pub kept_through : {A E : Type 0} (r : Result A E) (before now after : List ℕ) → Keeps before now → OnErr r (Keeps now after) → OnErr r (Keeps before after)
kept_through (Ok a) before now after kept e = e
kept_through (Err e) before now after first second = Keeps-trans before now after first second
