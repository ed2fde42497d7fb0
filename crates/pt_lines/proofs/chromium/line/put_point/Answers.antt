use Rattle.std.proofs.Common.{List, ℕ, [], ◌∷◌, ◌++◌, length, ap, sym, ◌∙◌}
use Rattle.std.specs.Prelude.{codes}
use Rattle.std.proofs.lemmas.Result.{on_ok_weaker}
use Rattle.pt_lines.specs.Json.{integer}
use Rattle.pt_lines.specs.Chromium.{moment_text}
use Rattle.pt_lines.proofs.Entries.{instant-is}
use Rattle.pt_lines.proofs.Steps.{onto, then}
use Rattle.pt_lines.proofs.chromium.line.put_point.Goals as goal

pub returns : goal.returns
returns c =
    let old = c.args.out.now.items in
    let moment = moment_text c.args.origin c.args.stamp in
    let count = integer (length c.args.threads.now) in
    let placed = then (codes ",\"args\":{\"threads\":") (then moment c.in_ok-put_word.ensures.ok c.in_ok-put_moment.ensures) c.in_ok-put_word-2.ensures.ok in
    on_ok_weaker c.put_word-3.result
    (λ e.
    then (codes "}}") (then count placed c.in_ok-put_integer.ensures) e
    ∙ onto old (codes ",\n{\"name\":\"point\",\"ph\":\"i\",\"s\":\"p\"," ∷ moment ∷ codes ",\"args\":{\"threads\":" ∷ count ∷ codes "}}" ∷ [])
    ∙ ap (λ (xs : List ℕ). old ++ xs) (sym (instant-is c.args.origin (record { stamp = c.args.stamp; threads = c.args.threads.now }))))
    c.put_word-3.ensures.ok
