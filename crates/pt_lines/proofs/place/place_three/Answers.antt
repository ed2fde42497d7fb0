-- The digits are those of the number.
use Rattle.std.proofs.Common.{List, ℕ, ◌++◌, drop, ap, ◌∙◌}
use Rattle.pt_lines.proofs.Digits.{three-digits}
use Rattle.pt_lines.proofs.place.place_three.Goals as goal

pub returns-clause-written : goal.returns-clause-written
returns-clause-written c =
    c.place_word.ensures.written ∙ ap (λ (digits : List ℕ). digits ++ drop c.args.end c.args.text.now) (three-digits c.args.number c.requires.small)
