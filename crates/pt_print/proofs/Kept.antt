-- What stays of a text to which is appended.
use Rattle.std.proofs.Common.{◌≡◌, ℕ, Result, Ok, Err, List, ◌++◌, length, take, drop, sym, ap, ◌∙◌}
use Rattle.std.proofs.Math.Seq.{take-append_seam}
use Rattle.std.proofs.lemmas.List.{append_assoc, take-append-drop}
use Rattle.std.specs.Result.{OnErr}

-- Where a later piece is put in part, what stood there at first stays.
pub kept_through : {A E : Type 0} (r : Result A E) (before put now after : List ℕ) → now ≡ before ++ put → take (length now) after ≡ now
    → OnErr r (take (length before) after ≡ before)
kept_through (Ok a) before put now after grown stays = tt
kept_through (Err e) before put now after grown stays =
    let rest = drop (length now) after in
    let front : now ++ rest ≡ after = rw stays at (take-append-drop (length now) after) in
    let all : after ≡ before ++ (put ++ rest) = sym front ∙ ap (λ (xs : List ℕ). xs ++ rest) grown ∙ append_assoc before put rest in
    ap (λ (xs : List ℕ). take (length before) xs) all ∙ take-append_seam before (put ++ rest)
