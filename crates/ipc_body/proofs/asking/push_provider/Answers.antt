use Rattle.std.proofs.Common.{◌++◌, List, ℕ, length, arith, ap, ◌∙◌}
use Rattle.pt_num.specs.Numbers.{fixed}
use Rattle.pt_num.specs.Texts.{text_c}
use Rattle.ipc_body.proofs.Lengths.{provider-length, four-put}
use Rattle.ipc_body.proofs.asking.push_provider.Goals as goal

pub push_text-requires-clause-few : goal.push_text-requires-clause-few
push_text-requires-clause-few c = omega (arith, provider-length c.args.rule.now, ap length c.as_slice.ensures, c.requires.few)

pub returns-clause-items : goal.returns-clause-items
unfolding fixed
returns-clause-items c =
    four-put c.args.out.now.items _ _ _ _ c.push_all.new.out.items c.push_all-2.new.out.items c.push_text.new.out.items c.push_all-3.new.out.items
    (c.push_all.ensures.items ∙ ap (λ (xs : List ℕ). c.args.out.now.items ++ xs) c.to_le_bytes.ensures)
    (c.push_all-2.ensures.items ∙ ap (λ (xs : List ℕ). c.push_all.new.out.items ++ xs) c.to_le_bytes-2.ensures)
    (c.push_text.ensures.items ∙ ap (λ (xs : List ℕ). c.push_all-2.new.out.items ++ text_c xs) c.as_slice.ensures)
    (c.push_all-3.ensures.items ∙ ap (λ (xs : List ℕ). c.push_text.new.out.items ++ xs) c.to_le_bytes-3.ensures)
