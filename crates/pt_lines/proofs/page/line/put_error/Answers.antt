use Rattle.std.proofs.Common.{[], ◌∷◌, ◌∙◌}
use Rattle.std.specs.Prelude.{codes}
use Rattle.std.proofs.lemmas.Result.{on_ok_weaker}
use Rattle.pt_lines.specs.Json.{error_object}
use Rattle.pt_lines.proofs.Steps.{onto, then}
use Rattle.pt_lines.proofs.page.line.put_error.Goals as goal

pub returns : goal.returns
returns c =
    let error = error_object c.args.at c.args.words.now in
    let begun = codes "]</script>\n<script type=\"application/json\" id=\"error\">" in
    let end = codes "</script>\n</body>\n</html>\n" in
    on_ok_weaker c.put_word-2.result
    (λ e.
    then end (then error c.in_ok-put_word.ensures.ok c.in_ok-put_error.ensures) e
    ∙ onto c.args.out.now.items (begun ∷ error ∷ end ∷ []))
    c.put_word-2.ensures.ok
