-- The members are the pieces that were put.
use Rattle.std.proofs.Common.{[], ◌∷◌, ◌∙◌}
use Rattle.std.specs.Prelude.{codes}
use Rattle.std.proofs.lemmas.Result.{on_ok_weaker}
use Rattle.pt_lines.specs.Texts.{quoted}
use Rattle.pt_lines.specs.Json.{integer}
use Rattle.pt_lines.proofs.Steps.{onto, then, then-by}
use Rattle.pt_lines.proofs.json.line.put_definition.Goals as goal

pub returns : goal.returns
returns c =
    let def = c.args.def.now in
    let named = then (codes ",\"name\":") (then-by quoted c.as_slice.result.now def.provider c.as_slice.ensures c.in_ok-put_word.ensures.ok c.in_ok-put_quoted.ensures) c.in_ok-put_word-2.ensures.ok in
    let known = then (codes ",\"id\":") (then-by quoted c.as_slice-2.result.now def.name c.as_slice-2.ensures named c.in_ok-put_quoted-2.ensures) c.in_ok-put_word-3.ensures.ok in
    let versioned = then (codes ",\"version\":") (then-by integer c.from.result def.id c.from.ensures known c.in_ok-put_integer.ensures) c.in_ok-put_word-4.ensures.ok in
    let leveled = then (codes ",\"level\":") (then-by integer c.from-2.result def.version c.from-2.ensures versioned c.in_ok-put_integer-2.ensures) c.in_ok-put_word-5.ensures.ok in
    let all = then (codes ",\"keywords\":") (then-by integer c.from-3.result def.level c.from-3.ensures leveled c.in_ok-put_integer-3.ensures) c.in_ok-put_word-6.ensures.ok in
    on_ok_weaker c.put_integer-4.result
    (λ e.
    then (integer def.keywords) all e
    ∙ onto c.args.out.now.items
    (codes ",\"provider\":"
    ∷ quoted def.provider
    ∷ codes ",\"name\":"
    ∷ quoted def.name
    ∷ codes ",\"id\":"
    ∷ integer def.id
    ∷ codes ",\"version\":"
    ∷ integer def.version
    ∷ codes ",\"level\":"
    ∷ integer def.level
    ∷ codes ",\"keywords\":"
    ∷ integer def.keywords
    ∷ []))
    c.put_integer-4.ensures
