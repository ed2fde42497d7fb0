-- The members are the pieces that were put.
use Rattle.std.proofs.Common.{ℕ, List, [], ◌∷◌, ap, ◌∙◌}
use Rattle.std.specs.Prelude.{codes}
use Rattle.pt_lines.specs.Texts.{quoted}
use Rattle.pt_lines.specs.state.Pieces.{end_of}
use Rattle.pt_lines.proofs.Steps.{onto, then, then-by}
use Rattle.pt_lines.proofs.chromium.line.put_span.Goals as goal

pub returns : goal.returns
returns c =
    let def = c.args.def.now in
    let shown = (end_of def.name).1 in
    let named = then-by quoted c.end_of.result.1.now shown (c.end_of.ensures.name ∙ ap (λ (n : List ℕ). (end_of n).1) c.as_slice.ensures) c.in_ok-put_word.ensures.ok c.in_ok-put_quoted.ensures in
    let grouped = then-by quoted c.as_slice-2.result.now def.provider c.as_slice-2.ensures (then (codes ",\"cat\":") named c.in_ok-put_word-2.ensures.ok) c.in_ok-put_quoted-2.ensures in
    then (codes ",") grouped c.in_ok-push.ensures.items
    ∙ onto c.args.out.now.items (codes ",\n{\"name\":" ∷ quoted shown ∷ codes ",\"cat\":" ∷ quoted def.provider ∷ codes "," ∷ [])
