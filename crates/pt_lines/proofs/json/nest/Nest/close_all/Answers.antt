use Rattle.std.proofs.Common.{List, ℕ, ◌++◌, ap, sym, ◌∙◌}
use Rattle.std.specs.Prelude.{replicate}
use Rattle.std.proofs.lemmas.List.{length-reverse}
use Rattle.std.proofs.lemmas.Result.{on_ok_weaker}
use Rattle.pt_lines.proofs.Nests.{all-ended}
use Rattle.pt_lines.proofs.json.nest.Nest.close_all.Goals as goal

pub returns : goal.returns
returns c =
    let nest = c.args.self.now in
    let old = c.args.out.now.items in
    let ends = all-ended nest.depths.items nest.is_first (length-reverse nest.depths.items) in
    on_ok_weaker c.put_ends.result
    (λ e. e ∙ ap (λ (n : ℕ). old ++ replicate n 125) (c.len.ensures ∙ nest.depths.ok.0) ∙ ap (λ (xs : List ℕ). old ++ xs) (sym ends))
    c.put_ends.ensures
