use Rattle.std.proofs.Common.{◌<◌, ◌^◌, List, ℕ, length, subst, sym}
use Rattle.pt_num.proofs.Kept.{Keeps-trans, on_error}
use Rattle.nt_blocks.proofs.Sizes.{stack-fits, keeps_three}
use Rattle.nt_blocks.proofs.put.append_stacks.Goals as goal

pub append_stack-requires : goal.append_stack-requires
append_stack-requires c =
    subst (λ (stack : List ℕ). length stack < 2 ^ 31) (sym c.stack-item.is)
    (stack-fits c.args.first c.args.stacks.now c.loop-stack.stack-index c.stack-item.result c.loop-stack-test.true c.requires.small)

pub returns-in_err-append_stack-clause-err : goal.returns-in_err-append_stack-clause-err
returns-in_err-append_stack-clause-err c =
    on_error _
    (Keeps-trans _ c.loop-stack.out.items _
    (keeps_three c.args.out.now.items c.put_u32.new.out.items c.put_u32-2.new.out.items c.loop-stack.out.items _ _ _ c.in_ok-put_u32.ensures.ok c.in_ok-put_u32-2.ensures.ok c.loop-stack.invariant)
    c.in_err-append_stack.ensures.err)
