use Rattle.std.proofs.Common.{[], ◌∷◌, ◌∙◌}
use Rattle.std.specs.Prelude.{codes}
use Rattle.std.specs.List.{concat}
use Rattle.std.proofs.lemmas.Result.{on_ok_weaker}
use Rattle.pt_lines.specs.Json.{integer}
use Rattle.pt_lines.proofs.Steps.{closed, onto, then, then-by}
use Rattle.pt_lines.proofs.json.line.put_lost.Goals as goal

pub returns : goal.returns
returns c =
    let pieces = codes "{\"kind\":\"lost\",\"thread\":" ∷ integer c.args.thread ∷ codes ",\"count\":" ∷ integer c.args.count ∷ [] in
    let put = then-by integer c.from.result c.args.count c.from.ensures (then (codes ",\"count\":") (then (integer c.args.thread) c.in_ok-put_word.ensures.ok c.in_ok-put_integer.ensures) c.in_ok-put_word-2.ensures.ok) c.in_ok-put_integer-2.ensures in
    on_ok_weaker c.put_word-3.result
    (λ e. closed c.args.out.now.items (concat pieces) (put ∙ onto c.args.out.now.items pieces) e)
    c.put_word-3.ensures.ok
