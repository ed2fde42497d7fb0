use Rattle.nt_blocks.proofs.PutForms.{on_ok-three, point-put}
use Rattle.nt_blocks.proofs.put.put_point.Goals as goal

pub returns-else-is_err-clause-form : goal.returns-else-is_err-clause-form
returns-else-is_err-clause-form c = λ at.
    on_ok-three c.append_point-put.result
    (λ put bytes fit. point-put at c.args.stamp c.args.threads.now c.args.out.now.items _ c.ranges.stamp.fits c.requires bytes put fit)
    c.append_point-put.ensures.ok
    c.append_point-put.ensures.bytes
    c.append_point-put.ensures.fit
