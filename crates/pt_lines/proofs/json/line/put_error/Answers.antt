use Rattle.std.proofs.Common.{[], ◌∷◌, ◌∙◌}
use Rattle.std.specs.Prelude.{codes}
use Rattle.std.specs.List.{concat}
use Rattle.std.proofs.lemmas.Result.{on_ok_weaker}
use Rattle.pt_lines.specs.Json.{in_quotes, integer}
use Rattle.pt_lines.proofs.Steps.{closed, onto, then, then-by}
use Rattle.pt_lines.proofs.json.line.put_error.Goals as goal

pub returns : goal.returns
returns c =
    let pieces = codes "{\"kind\":\"error\",\"offset\":" ∷ integer c.args.at ∷ codes ",\"error\":" ∷ in_quotes c.args.words.now ∷ [] in
    let put = then-by in_quotes c.as_bytes.result.now c.args.words.now c.as_bytes.ensures.value (then (codes ",\"error\":") (then (integer c.args.at) c.in_ok-put_word.ensures.ok c.in_ok-put_integer.ensures) c.in_ok-put_word-2.ensures.ok) c.in_ok-put_plain.ensures in
    on_ok_weaker c.put_word-3.result
    (λ e. closed c.args.out.now.items (concat pieces) (put ∙ onto c.args.out.now.items pieces) e)
    c.put_word-3.ensures.ok
