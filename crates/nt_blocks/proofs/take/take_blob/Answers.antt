use Rattle.std.proofs.Common.{◌≡◌, ◌+◌, ◌-◌, length, take, drop, ap, arith}
use Rattle.std.proofs.lemmas.Result.{err_from_is_err_and}
use Rattle.nt_blocks.proofs.TakeBlobs.{blob_found, blob_unheld, stands_more}
use Rattle.nt_blocks.proofs.take.take_blob.Goals as goal

pub returns-in_err-held-clause-fault : goal.returns-in_err-held-clause-fault
returns-in_err-held-clause-fault c =
    let p = err_from_is_err_and c.from_residual.result c.from_residual.ensures.1 in
    let head = c.next_head.new.state in
    let used = c.in-Some.used in
    let payload : take (used + head.size - used) (drop used c.args.bytes.now) ≡ take head.size (drop used c.args.bytes.now) = ap (λ n. take n (drop used c.args.bytes.now)) (omega arith) in
    rw (p.1, p.2)
    (λ at. blob_unheld c.args.kind at c.args.here used c.args.before.now head c.args.bytes.now c.in_err-held.field-0.0 c.in-Some.ensures.some (rw payload at (c.in_err-held.ensures.fault at)))

pub returns-clause-ok : goal.returns-clause-ok
returns-clause-ok c = λ at.
    let head = c.next_head.new.state in
    let used = c.in-Some.used in
    let payload : take (used + head.size - used) (drop used c.args.bytes.now) ≡ take head.size (drop used c.args.bytes.now) = ap (λ n. take n (drop used c.args.bytes.now)) (omega arith) in
    record {
      some = omega (arith, c.in-Some.ensures.some.some);
      within = c.in-Some.ensures.some.within;
      read = blob_found c.args.kind at c.args.here used c.args.before.now head c.args.bytes.now c.in_ok-held.held c.in-Some.ensures.some (λ place. rw payload at (c.in_ok-held.ensures.ok place));
    }

pub returns-in_err-held-clause-stands : goal.returns-in_err-held-clause-stands
returns-in_err-held-clause-stands c =
    let p = err_from_is_err_and c.from_residual.result c.from_residual.ensures.1 in
    rw (p.1, p.2) (stands_more (c.args.here + c.in-Some.used) (c.args.here + length c.args.bytes.now) c.in_err-held.field-0.0 (omega (arith, c.in-Some.ensures.some.within)) c.in_err-held.ensures.stands)
