use Rattle.std.proofs.Common.{◌+◌, length, drop, arith, length-drop}
use Rattle.std.proofs.lemmas.List.{drop-drop}
use Rattle.std.proofs.lemmas.Result.{err_from_is_err_and}
use Rattle.pt_num.proofs.Joined.{rest_is}
use Rattle.nt_blocks.specs.Refusals.{header_at}
use Rattle.nt_blocks.proofs.TakeBlobs.{fault_first, stands_more, going_start, going_step, going_end, going_stop}
use Rattle.nt_blocks.proofs.take.take_blobs.Goals as goal

pub returns-in_err-here-clause-fault : goal.returns-in_err-here-clause-fault
returns-in_err-here-clause-fault c =
    let p = err_from_is_err_and c.from_residual.result c.from_residual.ensures.1 in
    rw (p.1, p.2) (fault_first (header_at c.args.at c.args.body.now) _ c.args.at c.in_err-here.field-0.0 (c.in_err-here.ensures.fault c.args.at))

pub loop-here-init : goal.loop-here-init
loop-here-init c =
    rw c.zero-before.ensures (going_start c.args.kind c.args.at c.in_ok-here.here c.args.body.now c.args.items.now.items (c.in_ok-here.ensures.ok c.args.at) c.in_ok-here.ensures.within)

pub take_blob-requires-clause-here : goal.take_blob-requires-clause-here
take_blob-requires-clause-here c =
    rw (rest_is c.loop-here.here c.args.body.now) (omega (arith, length-drop c.loop-here.here c.args.body.now, c.requires.at))

pub returns-in_err-held-clause-fault : goal.returns-in_err-held-clause-fault
returns-in_err-held-clause-fault c =
    let p = err_from_is_err_and c.from_residual-in_err-held.result c.from_residual-in_err-held.ensures.1 in
    rw (p.1, p.2)
    (going_stop c.args.kind c.args.at c.loop-here.here c.args.body.now c.args.items.now.items c.loop-here.items.items c.loop-here.before (drop c.loop-here.here c.args.body.now) c.in_err-held.field-0.0 c.loop-here.invariant (omega (arith, length-drop c.loop-here.here c.args.body.now)) (rw (rest_is c.loop-here.here c.args.body.now) at (c.in_err-held.ensures.fault c.args.at)))

pub overflow_add-here : goal.overflow_add-here
overflow_add-here c =
    let reads = rw (rest_is c.loop-here.here c.args.body.now) at (c.in_ok-held.ensures.ok c.args.at) in
    omega (arith, reads.within, length-drop c.loop-here.here c.args.body.now, c.requires.at)

pub loop-here-smaller : goal.loop-here-smaller
loop-here-smaller c =
    let reads = rw (rest_is c.loop-here.here c.args.body.now) at (c.in_ok-held.ensures.ok c.args.at) in
    omega (arith, reads.some, c.loop-here-test.true)

pub loop-here-preserved : goal.loop-here-preserved
loop-here-preserved c =
    let reads = rw (rest_is c.loop-here.here c.args.body.now) at (c.in_ok-held.ensures.ok c.args.at) in
    let next = going_step c.args.kind c.args.at c.loop-here.here c.args.body.now c.args.items.now.items c.loop-here.items.items c.push.new.self.items c.loop-here.before (drop c.loop-here.here c.args.body.now) c.in_ok-held.field-0 c.loop-here.invariant (omega (arith, length-drop c.loop-here.here c.args.body.now)) reads c.in_ok-push.ensures.items in
    rw (drop-drop c.in_ok-held.field-0.used c.loop-here.here c.args.body.now) at next

pub returns-clause-ok : goal.returns-clause-ok
returns-clause-ok c =
    going_end c.args.kind c.args.at c.loop-here.here c.args.body.now c.args.items.now.items c.loop-here.items.items c.loop-here.before (drop c.loop-here.here c.args.body.now) c.loop-here.invariant (omega (arith, length-drop c.loop-here.here c.args.body.now))

pub returns-in_err-held-clause-stands : goal.returns-in_err-held-clause-stands
returns-in_err-held-clause-stands c =
    let p = err_from_is_err_and c.from_residual-in_err-held.result c.from_residual-in_err-held.ensures.1 in
    rw (p.1, p.2)
    (stands_more (c.loop-here.here + length (drop c.loop-here.here c.args.body.now)) (length c.args.body.now) c.in_err-held.field-0.0 (omega (arith, length-drop c.loop-here.here c.args.body.now)) (rw (rest_is c.loop-here.here c.args.body.now) at c.in_err-held.ensures.stands))
