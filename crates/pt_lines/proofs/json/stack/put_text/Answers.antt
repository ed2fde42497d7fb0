-- What is put behind nothing is the text itself.
use Rattle.std.proofs.Common.{List, ℕ, ◌++◌, ap, sym, ◌∙◌, subst}
use Rattle.std.proofs.lemmas.Result.{on_ok_weaker}
use Rattle.pt_lines.specs.state.Opening.{IsStackOpened}
use Rattle.pt_lines.proofs.json.stack.put_text.Goals as goal

pub returns : goal.returns
returns c =
    on_ok_weaker c.put_opened.result
    (λ put some. subst (IsStackOpened c.args.width c.args.stack.now) (sym (put.2 ∙ ap (λ (xs : List ℕ). xs ++ put.0) c.requires)) put.1)
    c.put_opened.ensures
