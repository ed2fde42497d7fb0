use Rattle.std.proofs.Common.{List, ℕ, [], ◌∷◌, ◌++◌, ap, sym, ◌∙◌}
use Rattle.std.specs.Prelude.{codes}
use Rattle.std.proofs.lemmas.Result.{on_ok_weaker}
use Rattle.pt_lines.specs.Json.{integer}
use Rattle.pt_lines.specs.Chromium.{moment_text}
use Rattle.pt_lines.proofs.Entries.{counter-is}
use Rattle.pt_lines.proofs.Steps.{onto, then, then-by}
use Rattle.pt_lines.proofs.chromium.line.put_lost.Goals as goal

pub returns : goal.returns
returns c =
    let old = c.args.out.now.items in
    let thread = integer c.args.thread in
    let moment = moment_text c.args.origin c.args.stamp in
    let begun = then (codes ",") (then thread c.in_ok-put_word.ensures.ok c.in_ok-put_integer.ensures) c.in_ok-push.ensures.items in
    let placed = then (codes ",\"tid\":") (then moment begun c.in_ok-put_moment.ensures) c.in_ok-put_word-2.ensures.ok in
    let counted = then (codes ",\"args\":{\"count\":") (then thread placed c.in_ok-put_integer-2.ensures) c.in_ok-put_word-3.ensures.ok in
    let all = then-by integer c.from.result c.args.count c.from.ensures counted c.in_ok-put_integer-3.ensures in
    on_ok_weaker c.put_word-4.result
    (λ e.
    then (codes "}}") all e
    ∙ onto old
    (codes ",\n{\"name\":\"lost\",\"ph\":\"C\",\"id\":"
    ∷ thread
    ∷ codes ","
    ∷ moment
    ∷ codes ",\"tid\":"
    ∷ thread
    ∷ codes ",\"args\":{\"count\":"
    ∷ integer c.args.count
    ∷ codes "}}"
    ∷ [])
    ∙ ap (λ (xs : List ℕ). old ++ xs) (sym (counter-is c.args.origin c.args.stamp c.args.thread c.args.count)))
    c.put_word-4.ensures.ok
