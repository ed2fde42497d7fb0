use Rattle.nt_blocks.proofs.PutForms.{on_ok, stacks-put}
use Rattle.nt_blocks.proofs.put.put_stacks.Goals as goal

pub returns-else-is_err-clause-form : goal.returns-else-is_err-clause-form
returns-else-is_err-clause-form c = λ at.
    on_ok c.append_stacks-put.result
    (λ put fit. stacks-put at c.args.first c.args.stacks.now c.args.out.now.items _ c.requires.ids c.requires.small fit put)
    c.append_stacks-put.ensures.ok
    c.append_stacks-put.ensures.bytes
