use Rattle.std.proofs.Common.{codes}
use Rattle.pt_num.proofs.Kept.{Keeps-trans, on_error}
use Rattle.nt_object.proofs.PutPieces.{begun_kept, start_put}
use Rattle.nt_object.proofs.object.append_start.Goals as goal

pub returns-clause-ok : goal.returns-clause-ok
returns-clause-ok c =
    start_put 4 (codes "Trace") _ _ _ _ _ _ _ _ _ _ _ c.in_ok-extend_from_slice.ensures.items c.in_ok-put_u32.ensures.ok c.in_ok-extend_from_slice-2.ensures.items c.in_ok-append_object_head.ensures.ok c.in_ok-append_trace.ensures.ok c.in_ok-push.ensures.items

pub returns-in_err-append_trace-clause-err : goal.returns-in_err-append_trace-clause-err
returns-in_err-append_trace-clause-err c =
    let begun = begun_kept c.args.out.now.items _ _ _ _ _ _ _ _ c.in_ok-extend_from_slice.ensures.items c.in_ok-put_u32.ensures.ok c.in_ok-extend_from_slice-2.ensures.items c.in_ok-append_object_head.ensures.ok in
    on_error c.from_residual-in_err-append_trace.result (Keeps-trans _ _ _ begun c.in_err-append_trace.ensures.err)
