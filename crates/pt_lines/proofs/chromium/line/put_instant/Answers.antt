-- The members are the pieces that were put.
use Rattle.std.proofs.Common.{[], ◌∷◌, ◌∙◌}
use Rattle.std.specs.Prelude.{codes}
use Rattle.std.proofs.lemmas.Result.{on_ok_weaker}
use Rattle.pt_lines.specs.Texts.{quoted}
use Rattle.pt_lines.proofs.Steps.{onto, then, then-by}
use Rattle.pt_lines.proofs.chromium.line.put_instant.Goals as goal

pub returns : goal.returns
returns c =
    let def = c.args.def.now in
    let named = then-by quoted c.as_slice.result.now def.name c.as_slice.ensures c.in_ok-put_word.ensures.ok c.in_ok-put_quoted.ensures in
    let grouped = then-by quoted c.as_slice-2.result.now def.provider c.as_slice-2.ensures (then (codes ",\"cat\":") named c.in_ok-put_word-2.ensures.ok) c.in_ok-put_quoted-2.ensures in
    on_ok_weaker c.put_word-3.result
    (λ e.
    then (codes ",\"ph\":\"i\",\"s\":\"t\"") grouped e
    ∙ onto c.args.out.now.items
    (codes ",\n{\"name\":" ∷ quoted def.name ∷ codes ",\"cat\":" ∷ quoted def.provider ∷ codes ",\"ph\":\"i\",\"s\":\"t\"" ∷ []))
    c.put_word-3.ensures.ok
