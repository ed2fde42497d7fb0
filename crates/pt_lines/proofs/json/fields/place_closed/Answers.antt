use Rattle.std.proofs.Common.{◌≡◌, List, ℕ, [], ◌++◌, drop, ap, ◌∙◌, arith}
use Rattle.std.specs.Prelude.{codes}
use Rattle.std.proofs.lemmas.List.{append-nil, drop_all}
use Rattle.std.proofs.lemmas.Option.{IfSome_then}
use Rattle.pt_lines.proofs.json.fields.place_closed.Goals as goal

pub returns : goal.returns
returns c =
    let behind = c.place_word-behind in
    let close = c.place_word-close in
    let none : drop 192 c.args.text.now ≡ [] = drop_all 192 c.args.text.now (omega (arith, c.requires)) in
    let ended : drop behind.result behind.new.text ≡ c.args.end.now =
    behind.ensures.written ∙ ap (λ (xs : List ℕ). c.args.end.now ++ xs) none ∙ append-nil c.args.end.now in
    IfSome_then c.place_members.result c.place_members.ensures.placed
    (λ start is. (
      omega (arith, is.4, close.ensures.start, behind.ensures.start),
      (
        is.0,
        is.1,
        is.2,
        is.3,
        is.5 ∙ ap (λ (xs : List ℕ). is.1 ++ xs) (close.ensures.written ∙ ap (λ (xs : List ℕ). codes "}" ++ xs) ended),
      ),
    ))
