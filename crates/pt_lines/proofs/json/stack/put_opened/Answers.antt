-- The addresses were put, and then the opening.
use Rattle.std.proofs.Common.{List, ℕ, ◌++◌, refl, ap, ◌∙◌, append_assoc}
use Rattle.std.proofs.lemmas.Result.{on_ok_weaker}
use Rattle.pt_lines.specs.state.Opening.{opening}
use Rattle.pt_lines.proofs.json.stack.put_opened.Goals as goal

pub returns : goal.returns
returns c =
    let put = c.in_ok-put_stack.ensures in
    on_ok_weaker c.put_word.result
    (λ e. (put.0 ++ opening, (put.0, put.1, refl), e ∙ ap (λ (xs : List ℕ). xs ++ opening) put.2 ∙ append_assoc c.args.out.now.items put.0 opening))
    c.put_word.ensures.ok
