use Rattle.std.proofs.Common.{◌≡◌, List, ℕ, ◌++◌, drop, replicate, sym, ap, ◌∙◌, append_assoc, arith}
use Rattle.ep_defs.proofs.Sameness.{text-means}
use Rattle.uuid.specs.Parts.{swap_fields}
use Rattle.uuid.specs.Text.{hyphenated_text, lower}
use Rattle.pt_lines.specs.state.Halves.{back_digits, front_digits}
use Rattle.pt_lines.proofs.Halves.{halves}
use Rattle.pt_lines.proofs.Uuids.{zeros-text}
use Rattle.pt_lines.proofs.guid.place_guid.Goals as goal

pub returns-then-is_none-clause-written : goal.returns-then-is_none-clause-written
returns-then-is_none-clause-written c =
    let zeros : c.args.bytes.now ≡ replicate 16 0 = text-means c.args.bytes.now (replicate 16 0) (sym c.is_none.ensures ∙ c.if-is_none.true) in
    c.place_word.ensures.written
    ∙ ap (λ (xs : List ℕ). xs ++ drop c.args.end c.args.text.now) (zeros-text ∙ sym (ap (λ (bytes : List ℕ). hyphenated_text lower (swap_fields bytes)) zeros))

pub returns-clause-written : goal.returns-clause-written
returns-clause-written c =
    let bytes = c.args.bytes.now in
    let rest = drop c.args.end c.args.text.now in
    c.place_word-2.ensures.written
    ∙ ap (λ (xs : List ℕ). c.front_text.result ++ xs) c.place_word-middle.ensures.written
    ∙ ap (λ (xs : List ℕ). xs ++ (c.back_text.result ++ rest)) c.front_text.ensures
    ∙ ap (λ (xs : List ℕ). front_digits bytes ++ (xs ++ rest)) c.back_text.ensures
    ∙ sym (append_assoc (front_digits bytes) (back_digits bytes) rest)
    ∙ ap (λ (xs : List ℕ). xs ++ rest) (halves bytes (omega arith) c.bytes_fit.ensures)
