-- Each step can be made, by the law of the schedule.
use Rattle.std.proofs.Common.{◌≡◌, List, [], ◌∷◌, ◌++◌, Some, None, Err, length, reverse, sym, ap, subst, ◌∙◌, arith}
use Rattle.ep_defs.specs.Session.{standard_info_of}
use Rattle.ep_model.specs.declared.step.Kind.{Kind}
use Rattle.ep_model.specs.declared.step.Step.{Step}
use Rattle.ep_core.specs.Machine.{Follows}
use Rattle.pt_gen.specs.Schedule.{generated}
use Rattle.pt_load.specs.Sample.{sample}
use Rattle.pt_gen.proofs.Steps.{one_more, all_made, made_so_far, given_some, given_none}
use Rattle.pt_gen.proofs.run.run.Goals as goal

unlike : (kind : Kind) → None ≡ Some kind → ⊥
unlike kind is = cc

pub new-requires-clause-few : goal.new-requires-clause-few
new-requires-clause-few c = rw c.in_ok-sample_events.ensures c.sample_events_are_valid.ensures.few

pub new-requires-clause-valid : goal.new-requires-clause-valid
new-requires-clause-valid c = rw c.in_ok-sample_events.ensures c.sample_events_are_valid.ensures.valid

pub new-requires-clause-distinct : goal.new-requires-clause-distinct
new-requires-clause-distinct c = rw c.in_ok-sample_events.ensures c.sample_events_are_valid.ensures.distinct

pub new-requires-clause-lacks : goal.new-requires-clause-lacks
new-requires-clause-lacks c = rw c.in_ok-sample_events.ensures c.sample_events_are_valid.ensures.lacks

pub loop-drafts-init : goal.loop-drafts-init
loop-drafts-init c =
    record {
      runs = record {
        past = [];
        follows = rw (← c.in_ok-sample_events.ensures, ← c.standard_info.ensures) c.in_ok-machine.ensures.fresh;
        working = c.in_ok-machine.ensures.working;
        whole = sym c.new-steps.ensures;
      };
      drafts = c.in_ok-drafts.ensures;
    }

pub step-requires : goal.step-requires
step-requires c =
    let before = c.loop-drafts.invariant.runs in
    let all = generated c.args.asked.seed c.args.asked.writes in
    record {
      few = omega (arith, before.follows.count, made_so_far all before.past c.loop-drafts.steps before.whole, c.a_schedule_can_be_made.ensures.short c.args.asked.seed c.args.asked.writes, c.requires.few);
    }

pub make_writes-requires-clause-runs : goal.make_writes-requires-clause-runs
make_writes-requires-clause-runs c =
    let before = c.loop-drafts.invariant.runs in
    let first = given_some c.loop-drafts.steps c.in_ok-step.field-0 c.next.new.self c.in-Some.step c.in_ok-step.ensures.given c.in-Some.is in
    record {
      past = c.in-Some.step ∷ before.past;
      follows = (c.in-Ok.ensures.made sample (standard_info_of 1 1) before.past before.follows).1;
      working = c.in-Ok.ensures.working;
      whole = one_more (generated c.args.asked.seed c.args.asked.writes) before.past c.in-Some.step c.loop-drafts.steps c.next.new.self before.whole first;
    }

pub make_writes-requires-clause-drafts : goal.make_writes-requires-clause-drafts
make_writes-requires-clause-drafts c = c.loop-drafts.invariant.drafts

pub loop-drafts-smaller : goal.loop-drafts-smaller
loop-drafts-smaller c =
    let first = given_some c.loop-drafts.steps c.in_ok-step.field-0 c.next.new.self c.in-Some.step c.in_ok-step.ensures.given c.in-Some.is in
    let count = ap (λ (xs : List Step). length xs) first in
    omega (arith, count, c.make_writes.ensures.fewer)

pub loop-drafts-preserved : goal.loop-drafts-preserved
loop-drafts-preserved c = record { runs = c.make_writes.ensures.runs; drafts = c.make_writes.ensures.drafts }

pub unreachable-requires : goal.unreachable-requires
unreachable-requires c =
    let before = c.loop-drafts.invariant.runs in
    let first = given_some c.loop-drafts.steps c.in_ok-step.field-0 c.next.new.self c.in-Some.step c.in_ok-step.ensures.given c.in-Some.is in
    let can = c.a_schedule_can_be_made.ensures.made c.args.asked.seed c.args.asked.writes before.past c.in-Some.step c.next.new.self (let h = c.requires.few in omega (arith, h)) (before.whole ∙ ap (λ xs. reverse before.past ++ xs) first) in
    let why = c.step.ensures.unlawful sample (standard_info_of 1 1) before.past c.in-Err-Unlawful.field-0-0 before.follows (c.in-Err-Unlawful.is ∙ ap Err c.in-Err-Unlawful.field-0-is) in
    unlike c.in-Err-Unlawful.field-0-0.kind (sym can ∙ why.0)

pub returns : goal.returns
returns c =
    let before = c.loop-drafts.invariant.runs in
    let none = given_none c.loop-drafts.steps c.in_ok-step.field-0 c.next.new.self c.in_ok-step.ensures.given c.in_default.is in
    subst
    (λ past. Follows sample (standard_info_of 1 1) past c.loop-drafts.machine)
    (all_made (generated c.args.asked.seed c.args.asked.writes) before.past c.loop-drafts.steps before.whole none)
    before.follows
