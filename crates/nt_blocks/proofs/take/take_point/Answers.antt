use Rattle.std.proofs.Common.{length, arith}
use Rattle.std.proofs.lemmas.Result.{err_from_is_err_and}
use Rattle.pt_num.proofs.Joined.{rest_is}
use Rattle.nt_blocks.proofs.TakeBlobs.{fault_first, fault_same, stands_more}
use Rattle.nt_blocks.proofs.take.take_point.Goals as goal

pub returns-in_err-threads-clause-fault : goal.returns-in_err-threads-clause-fault
returns-in_err-threads-clause-fault c =
    let p = err_from_is_err_and c.from_residual.result c.from_residual.ensures.1 in
    let fault = rw (rest_is 12 c.args.body.now) at (c.in_err-threads.ensures.fault c.args.at) in
    rw (p.1, p.2) (fault_same _ _ c.args.at c.in_err-threads.field-0.0 (c.in-Some.ensures.some.read c.args.at) (fault_first _ _ c.args.at c.in_err-threads.field-0.0 fault))

pub returns-in_err-threads-clause-stands : goal.returns-in_err-threads-clause-stands
returns-in_err-threads-clause-stands c =
    let p = err_from_is_err_and c.from_residual.result c.from_residual.ensures.1 in
    rw (p.1, p.2) (stands_more 0 (length c.args.body.now) c.in_err-threads.field-0.0 (omega arith) c.in_err-threads.ensures.stands)
