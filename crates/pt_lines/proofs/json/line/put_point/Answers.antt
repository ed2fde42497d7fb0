use Rattle.std.proofs.Common.{[], ◌∷◌, ◌∙◌}
use Rattle.std.specs.Prelude.{codes, map}
use Rattle.std.specs.List.{concat}
use Rattle.std.proofs.lemmas.Result.{on_ok_weaker}
use Rattle.pt_lines.specs.Json.{array, integer, known_object}
use Rattle.pt_lines.proofs.Steps.{closed, onto, then}
use Rattle.pt_lines.proofs.json.line.put_point.Goals as goal

pub returns : goal.returns
returns c =
    let threads = array (map known_object c.args.threads.now) in
    let pieces = codes "{\"kind\":\"point\",\"stamp\":" ∷ integer c.args.stamp ∷ codes ",\"threads\":" ∷ threads ∷ [] in
    let put = then threads (then (codes ",\"threads\":") (then (integer c.args.stamp) c.in_ok-put_word.ensures.ok c.in_ok-put_integer.ensures) c.in_ok-put_word-2.ensures.ok) c.in_ok-put_known.ensures in
    on_ok_weaker c.put_word-3.result
    (λ e. closed c.args.out.now.items (concat pieces) (put ∙ onto c.args.out.now.items pieces) e)
    c.put_word-3.ensures.ok
