-- The pieces of a report, put one after another.
use Rattle.std.proofs.Common.{◌≡◌, ℕ, List, [], ◌∷◌, ◌++◌, sym, ap, ◌∙◌, append_assoc}
use Rattle.std.proofs.lemmas.List.{append-nil}
use Rattle.std.specs.List.{concat}

concat-more : (done : List (List ℕ)) (piece : List ℕ) → concat (done ++ piece ∷ []) ≡ concat done ++ piece
concat-more [] piece = append-nil piece
concat-more (first ∷ done) piece = ap (λ (rest : List ℕ). first ++ rest) (concat-more done piece) ∙ sym (append_assoc first (concat done) piece)

-- One piece more was put after what stood there.
pub put-more : (done : List (List ℕ)) (before after piece wanted : List ℕ) → before ≡ concat done → after ≡ before ++ piece → piece ≡ wanted → after ≡ concat (done ++ wanted ∷ [])
put-more done before after piece wanted is put same =
    put ∙ ap (λ (front : List ℕ). front ++ piece) is ∙ ap (λ (back : List ℕ). concat done ++ back) same ∙ sym (concat-more done wanted)
