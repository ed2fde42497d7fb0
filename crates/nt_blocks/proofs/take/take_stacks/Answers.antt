use Rattle.std.proofs.Common.{◌≡◌, ℕ, ◌+◌, ◌-◌, length, drop, refl, subst, ◌∙◌, arith, length-drop}
use Rattle.std.proofs.lemmas.List.{drop-drop}
use Rattle.pt_num.proofs.Joined.{rest_is}
use Rattle.nt_blocks.proofs.TakeParts.{at_first}
use Rattle.nt_blocks.proofs.TakeLists.{GoingStacks, stacks_start, stacks_step, stacks_stop, stacks_end, stacks_over}
use Rattle.nt_blocks.proofs.take.take_stacks.Goals as goal

pub loop-id-init : goal.loop-id-init
loop-id-init c =
    let all : c.in-Some.count ≡ c.in-Some.first + c.in-Some.count - c.in-Some.first = omega arith in
    subst (λ (n : ℕ). GoingStacks c.args.at c.in-Some.first c.in-Some.count (drop 8 c.args.body.now) c.args.items.now.items c.in-Some.first n 8 (drop 8 c.args.body.now) c.args.items.now.items) all
    (stacks_start c.args.at c.in-Some.first c.in-Some.count (drop 8 c.args.body.now) c.args.items.now.items)

pub returns-in_default-stack_in-clause-fault : goal.returns-in_default-stack_in-clause-fault
returns-in_default-stack_in-clause-fault c =
    at_first c.args.at _
    (c.in-Some.ensures.some.read c.args.at
    ∙ stacks_stop c.args.at c.in-Some.first c.in-Some.count c.loop-id.id (c.in-Some.first + c.in-Some.count - c.loop-id.id) c.loop-id.here (drop 8 c.args.body.now) c.args.items.now.items c.loop-id.items.items (drop c.loop-id.here c.args.body.now) c.loop-id.invariant (omega (arith, c.loop-id-test.true))
    (λ place. rw (rest_is c.loop-id.here c.args.body.now) at (c.in_default-stack_in.ensures.none refl c.args.at place)))

pub loop-id-preserved : goal.loop-id-preserved
loop-id-preserved c =
    let stack = c.in-Some-stack_in.stack.now in
    let reads = rw (rest_is c.loop-id.here c.args.body.now) at c.in-Some-stack_in.ensures.some in
    let bytes : c.new-bytes.result ≡ c.in-Some-stack_in.stack.now = c.new-bytes.ensures ∙ c.in_ok-from_slice.ensures.items in
    let next = stacks_step c.args.at c.in-Some.first c.in-Some.count c.loop-id.id (c.in-Some.first + c.in-Some.count - c.loop-id.id) (c.in-Some.first + c.in-Some.count - (c.loop-id.id + 1)) c.loop-id.here (drop 8 c.args.body.now) c.args.items.now.items c.loop-id.items.items c.push.new.self.items (drop c.loop-id.here c.args.body.now) stack c.loop-id.invariant (omega (arith, c.loop-id-test.true)) reads (rw bytes at c.in_ok-push.ensures.items) in
    rw (drop-drop (4 + length stack) c.loop-id.here c.args.body.now) at next

pub returns-then-here-body-clause-fault : goal.returns-then-here-body-clause-fault
returns-then-here-body-clause-fault c =
    at_first c.args.at _
    (c.in-Some.ensures.some.read c.args.at
    ∙ stacks_over c.args.at c.in-Some.first c.in-Some.count c.loop-id.id (c.in-Some.first + c.in-Some.count - c.loop-id.id) c.loop-id.here (drop 8 c.args.body.now) c.args.items.now.items c.loop-id.items.items (drop c.loop-id.here c.args.body.now) c.loop-id.invariant (omega (arith, c.loop-id-test.false)) (omega (arith, length-drop c.loop-id.here c.args.body.now)))

pub returns-clause-ok : goal.returns-clause-ok
returns-clause-ok c =
    rw (c.in-Some.ensures.some.read c.args.at)
    (stacks_end c.args.at c.in-Some.first c.in-Some.count c.loop-id.id (c.in-Some.first + c.in-Some.count - c.loop-id.id) c.loop-id.here (drop 8 c.args.body.now) c.args.items.now.items c.loop-id.items.items (drop c.loop-id.here c.args.body.now) c.loop-id.invariant (omega (arith, c.loop-id-test.false)) (omega (arith, length-drop c.loop-id.here c.args.body.now)))
