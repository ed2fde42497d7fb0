use Rattle.std.proofs.Common.{List, ℕ, ◌++◌, refl, sym, ◌∙◌, ap, append_assoc}
use Rattle.std.specs.Prelude.{codes}
use Rattle.std.proofs.lemmas.Result.{on_ok_weaker}
use Rattle.pt_lines.specs.state.Pieces.{placed_text}
use Rattle.pt_lines.proofs.Entries.{entry-put}
use Rattle.pt_lines.proofs.Placing.{last-split}
use Rattle.pt_lines.proofs.chromium.line.put_event.Goals as goal

pub returns : goal.returns
returns c = λ origin processor thread entry tells.
    let first = c.put_named.new.out.items in
    let place = placed_text origin entry in
    on_ok_weaker c.put_placed.result
    (λ (text, (last, is_last, shown), put).
    let split = last-split entry.def.fields entry.payload (codes "}}") (first ++ place) c.put_placed.new.out.items
    (last, is_last, put ∙ ap (λ (xs : List ℕ). first ++ xs) shown ∙ sym (append_assoc first place last)) in
    entry-put origin processor thread entry entry.def.fields entry.payload c.args.out.now.items first (first ++ place) split.0 c.put_placed.new.out.items
    refl refl (c.in_ok-put_named.ensures origin processor thread entry tells) refl split.1 split.2)
    (c.put_placed.ensures origin processor thread entry tells)
