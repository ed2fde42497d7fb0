use Rattle.std.proofs.Common.{ℕ, ◌+◌, List, drop, refl, arith, length-drop}
use Rattle.std.proofs.lemmas.List.{drop-drop}
use Rattle.std.proofs.lemmas.Result.{err_from_is_err_and}
use Rattle.pt_num.proofs.Joined.{rest_is}
use Rattle.nt_blocks.specs.declared.take.BodyFault.TheVariants.{BadHead}
use Rattle.nt_blocks.specs.Refusals.{header_at}
use Rattle.nt_blocks.proofs.TakeBlobs.{fault_first}
use Rattle.nt_names.specs.state.Heads.{SkimsBlob}
use Rattle.nt_names.proofs.Events.{skimmed_start, skimmed_step, skimmed_end, skimmed_stop, skims_here}
use Rattle.nt_names.proofs.take.take_names.Goals as goal

pub returns-in_err-here-clause-fault : goal.returns-in_err-here-clause-fault
returns-in_err-here-clause-fault c =
    let p = err_from_is_err_and c.from_residual.result c.from_residual.ensures.1 in
    rw (p.1, p.2) (fault_first (header_at c.args.at c.args.body.now) _ c.args.at c.in_err-here.field-0.0 (c.in_err-here.ensures.fault c.args.at))

pub loop-here-init : goal.loop-here-init
loop-here-init c =
    skimmed_start c.args.at c.in_ok-here.here c.args.body.now c.args.events.now.items (c.in_ok-here.ensures.ok c.args.at) c.in_ok-here.ensures.within

pub returns-in_default-clause-fault : goal.returns-in_default-clause-fault
returns-in_default-clause-fault c =
    let body = c.args.body.now in
    let here = c.loop-here.here in
    skimmed_stop c.args.at here body c.args.events.now.items c.loop-here.events.items c.loop-here.before (drop here body) (BadHead here) c.loop-here.invariant (omega (arith, length-drop here body))
    (λ before same. rw (rest_is here body) at (c.in_default.ensures.none refl before same (c.args.at + here)))

pub overflow_add-here : goal.overflow_add-here
overflow_add-here c =
    let within = skims_here c.args.at c.loop-here.here c.in-Some.field-0.used c.args.body.now _ _ _ c.in-Some.field-0.head c.loop-here.invariant c.in-Some.ensures.some in
    omega (arith, within.most, length-drop c.loop-here.here c.args.body.now, c.requires)

pub overflow_add-here-in-loop-here : goal.overflow_add-here-in-loop-here
overflow_add-here-in-loop-here c =
    let within = skims_here c.args.at c.loop-here.here c.in-Some.field-0.used c.args.body.now _ _ _ c.in-Some.field-0.head c.loop-here.invariant c.in-Some.ensures.some in
    omega (arith, within.most, length-drop c.loop-here.here c.args.body.now, c.requires)

pub loop-here-smaller : goal.loop-here-smaller
loop-here-smaller c =
    let within = skims_here c.args.at c.loop-here.here c.in-Some.field-0.used c.args.body.now _ _ _ c.in-Some.field-0.head c.loop-here.invariant c.in-Some.ensures.some in
    omega (arith, within.some, c.loop-here-test.true)

pub loop-here-preserved : goal.loop-here-preserved
loop-here-preserved c =
    let body = c.args.body.now in
    let here = c.loop-here.here in
    let now = c.in-Some.field-0.head in
    let used = c.in-Some.field-0.used in
    let rest : List ℕ = drop here body in
    let skims : SkimsBlob c.loop-here.before rest now used = rw (rest_is here body) at c.in-Some.ensures.some in
    let next = skimmed_step c.args.at here used body c.args.events.now.items c.loop-here.events.items c.push.new.self.items c.loop-here.before now rest c.loop-here.invariant (omega (arith, length-drop here body)) skims c.in_ok-push.ensures.items in
    rw (drop-drop (used + now.size) here body) at next

pub returns-clause-ok : goal.returns-clause-ok
returns-clause-ok c =
    skimmed_end c.args.at c.loop-here.here c.args.body.now c.args.events.now.items c.loop-here.events.items c.loop-here.before (drop c.loop-here.here c.args.body.now) c.loop-here.invariant (omega (arith, length-drop c.loop-here.here c.args.body.now))
