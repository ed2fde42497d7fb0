use Rattle.std.proofs.Common.{◌≡◌, ◌/◌, ◌%◌, List, [], ◌∷◌, ◌++◌, ℕ, ap, ◌∙◌, arith, append_assoc}
use Rattle.pt_num.specs.Numbers.{fixed}
use Rattle.pt_num.proofs.text.push_unit.Goals as goal

pub returns-clause-items : goal.returns-clause-items
unfolding fixed
returns-clause-items c =
    let high : c.args.unit / 256 ≡ c.args.unit / 256 % 256 = omega arith in
    c.push_reserved-2.ensures.items
    ∙ ap (λ (bytes : List ℕ). bytes ++ (c.args.unit / 256) ∷ []) c.push_reserved.ensures.items
    ∙ append_assoc c.args.out.now.items ((c.args.unit % 256) ∷ []) ((c.args.unit / 256) ∷ [])
    ∙ ap (λ (b : ℕ). c.args.out.now.items ++ (c.args.unit % 256) ∷ b ∷ []) high
