use Rattle.std.proofs.Common.{ℕ, List, ◌++◌, ap, sym, ◌∙◌, append_assoc, add-one}
use Rattle.std.specs.Prelude.{codes}
use Rattle.pt_lines.specs.Texts.{closes}
use Rattle.pt_lines.proofs.Steps.{closes-more}
use Rattle.pt_lines.proofs.fields.put_closes.Goals as goal

pub loop-preserved : goal.loop-preserved
loop-preserved c =
    rw add-one
    (c.in_ok-extend_from_slice.ensures.items
    ∙ ap (λ (xs : List ℕ). xs ++ codes " }") c.loop.invariant
    ∙ append_assoc c.args.out.now.items (closes c.loop.counter) (codes " }")
    ∙ ap (λ (xs : List ℕ). c.args.out.now.items ++ xs) (sym (closes-more c.loop.counter)))
