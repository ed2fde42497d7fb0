-- The write that was passed over can be made, by the law of the schedule.
use Rattle.std.proofs.Common.{List, length, length-append, ap, arith}
use Rattle.ep_defs.specs.Session.{standard_info_of}
use Rattle.ep_model.specs.declared.step.Step.{Step}
use Rattle.pt_gen.specs.Schedule.{generated, made, thread_at, write_at}
use Rattle.pt_gen.specs.state.Running.{with_round}
use Rattle.pt_load.specs.Sample.{sample}
use Rattle.pt_gen.proofs.Steps.{made_so_far, some_lawful, some_more}
use Rattle.pt_gen.proofs.run.make_writes.Goals as goal

pub loop-round-init : goal.loop-round-init
loop-round-init c = record { runs = c.requires.runs; fewer = omega arith; drafts = c.requires.drafts }

pub make_write-requires-clause-can : goal.make_write-requires-clause-can
make_write-requires-clause-can c =
    let runs = c.loop-round.invariant.runs in
    let seed = c.args.rounds.seed in
    let rounds = c.args.rounds.count in
    let round = c.in-Some.round in
    record {
      events = sample;
      info = standard_info_of 1 1;
      past = runs.past;
      follows = runs.follows;
      lawful = some_lawful (generated seed rounds) runs.past (made (thread_at seed round) round (write_at seed round)) c.loop-round.steps c.pass_write.new.self
          (c.a_schedule_can_be_made.ensures.lawful seed rounds (let few = c.requires.few in omega (arith, few))) runs.whole c.in-Some.ensures.passed;
    }

pub make_write-requires-clause-working : goal.make_write-requires-clause-working
make_write-requires-clause-working c = c.loop-round.invariant.runs.working

pub make_write-requires-clause-few : goal.make_write-requires-clause-few
make_write-requires-clause-few c =
    let runs = c.loop-round.invariant.runs in
    let seed = c.args.rounds.seed in
    let rounds = c.args.rounds.count in
    omega (arith, runs.follows.count, made_so_far (generated seed rounds) runs.past c.loop-round.steps runs.whole, c.a_schedule_can_be_made.ensures.short seed rounds, c.requires.few)

pub loop-round-smaller : goal.loop-round-smaller
loop-round-smaller c =
    let seed = c.args.rounds.seed in
    let round = c.in-Some.round in
    let count = ap (λ (xs : List Step). length xs) c.in-Some.ensures.passed in
    omega (arith, count, length-append (made (thread_at seed round) round (write_at seed round)) c.pass_write.new.self)

pub loop-round-preserved : goal.loop-round-preserved
loop-round-preserved c =
    let runs = c.loop-round.invariant.runs in
    let seed = c.args.rounds.seed in
    let rounds = c.args.rounds.count in
    let round = c.in-Some.round in
    let steps = made (thread_at seed round) round (write_at seed round) in
    let later = c.pass_write.new.self in
    let count = ap (λ (xs : List Step). length xs) c.in-Some.ensures.passed in
    let lawful = some_lawful (generated seed rounds) runs.past steps c.loop-round.steps later
    (c.a_schedule_can_be_made.ensures.lawful seed rounds (let few = c.requires.few in omega (arith, few))) runs.whole c.in-Some.ensures.passed in
    record {
      runs = record {
        past = with_round seed round runs.past;
        follows = c.make_write.ensures.writes runs.past runs.follows lawful;
        working = c.make_write.ensures.working;
        whole = some_more (generated seed rounds) runs.past steps c.loop-round.steps later runs.whole c.in-Some.ensures.passed;
      };
      fewer = omega (arith, count, length-append steps later, c.loop-round.invariant.fewer);
      drafts = c.make_write.ensures.drafts;
    }
