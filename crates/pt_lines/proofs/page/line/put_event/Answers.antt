-- The comma and the object were put.
use Rattle.std.proofs.Common.{ℕ, List, ◌++◌, refl, ap, ◌∙◌, append_assoc}
use Rattle.std.specs.Prelude.{codes}
use Rattle.std.proofs.lemmas.Result.{on_ok_weaker}
use Rattle.pt_lines.specs.Page.{next_item}
use Rattle.pt_lines.proofs.page.line.put_event.Goals as goal

pub returns : goal.returns
returns c = λ origin processor thread entry tells.
    on_ok_weaker c.put_event.result
    (λ put. (
      next_item put.0,
      (put.0, put.1, refl),
      put.2
          ∙ ap (λ (xs : List ℕ). xs ++ put.0) c.in_ok-push.ensures.items
          ∙ append_assoc c.args.out.now.items (codes ",") put.0,
    ))
    (c.put_event.ensures origin processor thread entry tells)
