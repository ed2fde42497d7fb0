use Rattle.std.proofs.Common.{◌+◌, refl}
use Rattle.std.proofs.lemmas.Result.{err_from_is_err_and}
use Rattle.pt_num.proofs.Joined.{rest_is}
use Rattle.nt_blocks.specs.declared.take.BodyFault.TheVariants.{BadHead}
use Rattle.nt_blocks.specs.Refusals.{header_at}
use Rattle.nt_blocks.proofs.Placing.{placing_end, placing_start, placing_step, placing_stop}
use Rattle.nt_blocks.proofs.TakeBlobs.{fault_first}
use Rattle.nt_blocks.proofs.place.place_events.Goals as goal

pub returns-in_err-here-clause-fault : goal.returns-in_err-here-clause-fault
returns-in_err-here-clause-fault c =
    let p = err_from_is_err_and c.from_residual.result c.from_residual.ensures.1 in
    rw (p.1, p.2) (fault_first (header_at c.args.at c.args.body.now) _ c.args.at c.in_err-here.field-0.0 (c.in_err-here.ensures.fault c.args.at))

pub loop-here-init : goal.loop-here-init
loop-here-init c =
    rw c.zero-head.ensures (placing_start c.args.at c.in_ok-here.here c.args.body.now c.args.events.now.items c.requires.none (c.in_ok-here.ensures.ok c.args.at) c.in_ok-here.ensures.within)

pub returns-in_default-clause-fault : goal.returns-in_default-clause-fault
returns-in_default-clause-fault c =
    let here = c.loop-here.here in
    placing_stop c.args.at here c.args.body.now c.loop-here.head c.loop-here.events.items (BadHead here) c.loop-here.invariant c.loop-here-test.true
    (rw (rest_is here c.args.body.now) at (c.in_default.ensures.none refl (c.args.at + here)))

pub loop-here-preserved : goal.loop-here-preserved
loop-here-preserved c =
    let here = c.loop-here.here in
    let reads = rw (rest_is here c.args.body.now) at c.in-Some.ensures.some in
    placing_step c.args.at here c.in-Some.used c.args.body.now c.loop-here.events.items c.push_reserved.new.self.items c.loop-here.head c.next_head.new.state c.loop-here.invariant c.loop-here-test.true reads (rw c.reserve.ensures.items at c.push_reserved.ensures.items)

pub returns-clause-ok : goal.returns-clause-ok
returns-clause-ok c =
    placing_end c.args.at c.loop-here.here c.args.body.now c.loop-here.head c.loop-here.events.items c.loop-here.invariant c.loop-here-test.false
