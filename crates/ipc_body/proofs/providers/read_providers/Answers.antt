use Rattle.std.proofs.Common.{arith}
use Rattle.pt_num.proofs.Joined.{rest_is}
use Rattle.ipc_body.proofs.Provided.{read-more, read-none, read-all, read-over}
use Rattle.ipc_body.proofs.providers.read_providers.Goals as goal

pub returns-in-Err-clause-exact : goal.returns-in-Err-clause-exact
returns-in-Err-clause-exact c = λ other.
    read-none c.args.count c.loop-place._place c.loop-place.used c.args.bytes.now _ c.loop-place.rules.items c.in-Err.fault
    c.loop-place-test.true c.loop-place.invariant (rest_is c.loop-place.used c.args.bytes.now) (c.in-Err.ensures.exact other)

pub loop-place-preserved : goal.loop-place-preserved
loop-place-preserved c =
    let taken = c.in-Ok.ensures.exact in
    rw c.in_ok-push-in-Ok.ensures.items
    (read-more c.args.count c.loop-place._place c.loop-place.used c.in-Ok.more c.args.bytes.now _ c.loop-place.rules.items c.in-Ok.rule
    c.loop-place-test.true c.loop-place.invariant (rest_is c.loop-place.used c.args.bytes.now) taken.0 taken.1 c.in-Ok.ensures.named)

pub returns-then-used-bytes-clause-exact : goal.returns-then-used-bytes-clause-exact
returns-then-used-bytes-clause-exact c = λ _.
    let within = c.loop-place.invariant.within in
    read-over c.args.count c.loop-place._place c.loop-place.used c.args.bytes.now c.loop-place.rules.items
    c.loop-place-test.false c.loop-place.invariant (omega arith)

pub returns-clause-exact : goal.returns-clause-exact
returns-clause-exact c =
    rw c.new.ensures
    (read-all c.args.count c.loop-place._place c.loop-place.used c.args.bytes.now c.loop-place.rules.items
    c.loop-place-test.false c.loop-place.invariant c.if-used-bytes.false)

pub returns-clause-many : goal.returns-clause-many
returns-clause-many c = rw c.new.ensures (let m = c.loop-place.invariant.many in omega arith)

pub returns-clause-named : goal.returns-clause-named
returns-clause-named c = rw c.new.ensures c.loop-place.invariant.named
