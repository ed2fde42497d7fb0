use Rattle.std.proofs.Common.{[], ◌∷◌, ◌∙◌}
use Rattle.std.specs.Prelude.{codes}
use Rattle.std.proofs.lemmas.Result.{on_ok_weaker}
use Rattle.pt_lines.specs.Json.{error_object}
use Rattle.pt_lines.proofs.Steps.{onto, then}
use Rattle.pt_lines.proofs.chromium.line.put_error.Goals as goal

pub returns : goal.returns
returns c =
    let error = error_object c.args.at c.args.words.now in
    on_ok_weaker c.put_word-2.result
    (λ e.
    then (codes "}\n") (then error c.in_ok-put_word.ensures.ok c.in_ok-put_error.ensures) e
    ∙ onto c.args.out.now.items (codes "\n],\"error\":" ∷ error ∷ codes "}\n" ∷ []))
    c.put_word-2.ensures.ok
