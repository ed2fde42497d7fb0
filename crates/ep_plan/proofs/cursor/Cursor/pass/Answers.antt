use Rattle.std.proofs.Common.{◌+◌, ℕ, List, ◌∷◌, length, take, sym, ap, ◌∙◌, refl, arith}
use Rattle.std.proofs.lemmas.List.{take_rest, length-drop}
use Rattle.ep_plan.specs.Words.{parts_at, space}
use Rattle.ep_plan.proofs.Ahead.{passed, whole_word, first_word, word_length}
use Rattle.ep_plan.proofs.cursor.Cursor.pass.Goals as goal

pub returns-then-count-text : goal.returns-then-count-text
returns-then-count-text c =
    passed c.args.self.now _ c.in-Some.text c.args.count refl refl c.in-Some.is (λ word. whole_word c.in-Some.text.now c.args.count word c.if-count-text.true) (λ word. tt)

pub returns : goal.returns
returns c =
    let text = c.in-Some.text.now in
    let count = c.args.count in
    passed c.args.self.now _ c.in-Some.text count refl refl c.in-Some.is
    (λ word. first_word text count word (omega (arith, word.within, c.if-count-text.false)) ∙ ap (λ (rest : List ℕ). take count text ∷ parts_at space rest) (sym (take_rest text (count + 1))))
    (λ word. omega (arith, word.within, c.if-count-text.false, word_length text count word, ap length (take_rest text (count + 1)), length-drop (count + 1) text))
