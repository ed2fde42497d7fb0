use Rattle.std.proofs.Common.{◌++◌, List, ℕ, arith, ap, ◌∙◌}
use Rattle.pt_num.specs.Numbers.{fixed}
use Rattle.ipc_frame.specs.Message.{header}
use Rattle.ipc_body.specs.declared.commands.TheConstants.{EVENT_PIPE, COLLECT_TRACING2}
use Rattle.ipc_body.proofs.Lengths.{few-rules, collect-length, collect-size, six-put}
use Rattle.ipc_body.proofs.asking.push_collect.Goals as goal

pub overflow_cast-asked : goal.overflow_cast-asked
overflow_cast-asked c =
    omega (arith, few-rules c.args.asked.now.rules.now, collect-length c.args.asked.now.megabytes c.args.asked.now.rules.now, c.requires.whole, c.ranges.size.fits)

pub returns : goal.returns
unfolding fixed
returns c =
    let size = c.requires.whole ∙ collect-size c.args.asked.now.megabytes c.args.asked.now.rules.now in
    six-put c.args.out.now.items _ _ _ _ _ _ c.push_all.new.out.items c.push_all-2.new.out.items c.push_all-3.new.out.items c.push_all-4.new.out.items c.push_all-5.new.out.items c.push_providers.new.out.items
    (c.push_all.ensures.items ∙ ap (λ (xs : List ℕ). c.args.out.now.items ++ xs) (c.header.ensures ∙ ap (λ (n : ℕ). header EVENT_PIPE COLLECT_TRACING2 n) size))
    (c.push_all-2.ensures.items ∙ ap (λ (xs : List ℕ). c.push_all.new.out.items ++ xs) c.to_le_bytes.ensures)
    (c.push_all-3.ensures.items ∙ ap (λ (xs : List ℕ). c.push_all-2.new.out.items ++ xs) c.to_le_bytes-2.ensures)
    c.push_all-4.ensures.items
    (c.push_all-5.ensures.items ∙ ap (λ (xs : List ℕ). c.push_all-4.new.out.items ++ xs) c.to_le_bytes-3.ensures)
    c.push_providers.ensures
