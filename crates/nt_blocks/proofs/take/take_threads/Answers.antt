use Rattle.std.proofs.Common.{◌+◌, ◌-◌, drop, refl, arith, length-drop}
use Rattle.std.proofs.lemmas.List.{drop-drop}
use Rattle.pt_num.proofs.Joined.{rest_is}
use Rattle.nt_blocks.proofs.TakeParts.{at_first}
use Rattle.nt_blocks.proofs.TakeLists.{threads_step, threads_stop, threads_end, threads_over}
use Rattle.nt_blocks.proofs.take.take_threads.Goals as goal

pub returns-in_default-clause-fault : goal.returns-in_default-clause-fault
returns-in_default-clause-fault c = λ at.
    at_first at _
    (threads_stop c.args.count (c.args.count - c.loop.counter) c.loop.here c.args.bytes.now (drop c.loop.here c.args.bytes.now) c.loop.threads.items c.loop.invariant (omega (arith, c.loop-test.true))
    (λ start left. rw (rest_is c.loop.here c.args.bytes.now) at (c.in_default.ensures.none refl start left)) at)

pub loop-preserved : goal.loop-preserved
loop-preserved c =
    let reads = rw (rest_is c.loop.here c.args.bytes.now) at c.in-Some.ensures.some in
    let next = threads_step c.args.count (c.args.count - c.loop.counter) (c.args.count - (c.loop.counter + 1)) c.loop.here c.args.bytes.now (drop c.loop.here c.args.bytes.now) c.loop.threads.items c.push.new.self.items c.in-Some.thread c.loop.invariant (omega (arith, c.loop-test.true)) reads c.in_ok-push.ensures.items in
    rw (drop-drop 12 c.loop.here c.args.bytes.now) at next

pub returns-then-here-bytes-clause-fault : goal.returns-then-here-bytes-clause-fault
returns-then-here-bytes-clause-fault c = λ at.
    at_first at _
    (threads_over c.args.count (c.args.count - c.loop.counter) c.loop.here c.args.bytes.now (drop c.loop.here c.args.bytes.now) c.loop.threads.items c.loop.invariant (omega (arith, c.loop-test.false)) (omega (arith, length-drop c.loop.here c.args.bytes.now)) at)

pub returns-clause-ok : goal.returns-clause-ok
returns-clause-ok c =
    threads_end c.args.count (c.args.count - c.loop.counter) c.loop.here c.args.bytes.now (drop c.loop.here c.args.bytes.now) c.loop.threads.items c.loop.invariant (omega (arith, c.loop-test.false)) (omega (arith, length-drop c.loop.here c.args.bytes.now))
