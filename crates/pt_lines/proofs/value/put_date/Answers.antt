use Rattle.std.proofs.Common.{◌≡◌, ℕ, List, [], ◌∷◌, ◌++◌, ap, ◌∙◌, append_assoc}
use Rattle.std.specs.Prelude.{slice_index}
use Rattle.std.proofs.lemmas.List.{append-nil}
use Rattle.std.proofs.lemmas.Result.{on_ok_weaker}
use Rattle.pt_lines.specs.Texts.{digits_in, day_text, clock_text}
use Rattle.pt_lines.proofs.value.put_date.Goals as goal

dated : (old day clock millis : List ℕ) → ((((old ++ day) ++ 84 ∷ []) ++ clock) ++ 46 ∷ []) ++ millis ≡ old ++ (day ++ 84 ∷ (clock ++ 46 ∷ (millis ++ [])))
dated old day clock millis = simp (append_assoc, append-nil)

pub returns : goal.returns
returns c =
    let numbers = c.args.numbers.now in
    let millis = digits_in 3 (slice_index numbers 7) in
    on_ok_weaker c.put_places.result
    (λ e.
    e
    ∙ ap (λ (xs : List ℕ). xs ++ millis)
    (c.in_ok-push-2.ensures.items
    ∙ ap (λ (xs : List ℕ). xs ++ 46 ∷ [])
    (c.in_ok-put_clock.ensures
    ∙ ap (λ (xs : List ℕ). xs ++ clock_text numbers) (c.in_ok-push.ensures.items ∙ ap (λ (xs : List ℕ). xs ++ 84 ∷ []) c.in_ok-put_day.ensures)))
    ∙ dated c.args.out.now.items (day_text numbers) (clock_text numbers) millis)
    c.put_places.ensures
