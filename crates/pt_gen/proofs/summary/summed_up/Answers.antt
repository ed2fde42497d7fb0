-- Both sessions were opened on all threads, and are finished in the end.
use Rattle.std.proofs.Common.{◌≡◌, ◌≤◌, Bool, true, false, List, length, reverse, sym, ap, subst, ◌∙◌, arith}
use Rattle.ep_defs.specs.declared.limits.TheConstants.{SCHEDULE_WRITES}
use Rattle.ep_defs.specs.Session.{standard_info_of}
use Rattle.ep_defs.specs.declared.session.Marks.{Marks}
use Rattle.pt_gen.specs.declared.limits.TheConstants.{NARROW, WIDE, THREADS}
use Rattle.pt_gen.specs.Schedule.{generated}
use Rattle.pt_load.specs.Sample.{sample}
use Rattle.pt_gen.specs.state.Counted.{counted}
use Rattle.pt_gen.proofs.Sums.{marks_are_few, marks_sum_up}
use Rattle.pt_gen.proofs.summary.summed_up.Goals as goal

not_both : (b : Bool) → b ≡ true → b ≡ false → ⊥
not_both b is fails = cc

pub unreachable-requires : goal.unreachable-requires
unreachable-requires c =
    let past = reverse (generated c.args.asked.seed c.args.asked.writes) in
    let few : c.args.asked.writes ≤ SCHEDULE_WRITES = let h = c.requires.few in omega (arith, h) in
    not_both _ (c.a_schedule_can_be_made.ensures.wide c.args.asked.seed c.args.asked.writes few) (c.in_default.ensures.none sample (standard_info_of 1 1) past c.in_ok-machine.ensures)

pub unreachable-requires-in_default-marks : goal.unreachable-requires-in_default-marks
unreachable-requires-in_default-marks c =
    let past = reverse (generated c.args.asked.seed c.args.asked.writes) in
    let few : c.args.asked.writes ≤ SCHEDULE_WRITES = let h = c.requires.few in omega (arith, h) in
    not_both _ (c.a_schedule_can_be_made.ensures.narrow c.args.asked.seed c.args.asked.writes few) (c.in_default-marks.ensures.none sample (standard_info_of 1 1) past c.in_ok-machine.ensures)

pub sums-requires : goal.sums-requires
sums-requires c =
    let past = reverse (generated c.args.asked.seed c.args.asked.writes) in
    let few : c.args.asked.writes ≤ SCHEDULE_WRITES = let h = c.requires.few in omega (arith, h) in
    let found = c.in-Some.ensures.some sample (standard_info_of 1 1) past c.in_ok-machine.ensures in
    record {
      few = subst (λ (ms : List Marks). length ms ≤ THREADS) (sym found.1) (marks_are_few WIDE past (c.a_schedule_can_be_made.ensures.wide_opened c.args.asked.seed c.args.asked.writes few));
    }

pub sums-requires-2 : goal.sums-requires-2
sums-requires-2 c =
    let past = reverse (generated c.args.asked.seed c.args.asked.writes) in
    let few : c.args.asked.writes ≤ SCHEDULE_WRITES = let h = c.requires.few in omega (arith, h) in
    let found = c.in-Some-marks.ensures.some sample (standard_info_of 1 1) past c.in_ok-machine.ensures in
    record {
      few = subst (λ (ms : List Marks). length ms ≤ THREADS) (sym found.1) (marks_are_few NARROW past (c.a_schedule_can_be_made.ensures.narrow_opened c.args.asked.seed c.args.asked.writes few));
    }

pub returns-clause-wide : goal.returns-clause-wide
returns-clause-wide c =
    let past = reverse (generated c.args.asked.seed c.args.asked.writes) in
    let few : c.args.asked.writes ≤ SCHEDULE_WRITES = let h = c.requires.few in omega (arith, h) in
    let law = c.a_schedule_can_be_made.ensures in
    let found = c.in-Some.ensures.some sample (standard_info_of 1 1) past c.in_ok-machine.ensures in
    c.sums.ensures ∙ ap counted found.1
    ∙ marks_sum_up WIDE past (law.wide_opened c.args.asked.seed c.args.asked.writes few)
    (λ thread was. c.finished_sessions_are_faithful.ensures.counted sample WIDE thread past (law.lawful c.args.asked.seed c.args.asked.writes few) found.0 was)

pub returns-clause-narrow : goal.returns-clause-narrow
returns-clause-narrow c =
    let past = reverse (generated c.args.asked.seed c.args.asked.writes) in
    let few : c.args.asked.writes ≤ SCHEDULE_WRITES = let h = c.requires.few in omega (arith, h) in
    let law = c.a_schedule_can_be_made.ensures in
    let found = c.in-Some-marks.ensures.some sample (standard_info_of 1 1) past c.in_ok-machine.ensures in
    c.sums-2.ensures ∙ ap counted found.1
    ∙ marks_sum_up NARROW past (law.narrow_opened c.args.asked.seed c.args.asked.writes few)
    (λ thread was. c.finished_sessions_are_faithful.ensures.counted sample NARROW thread past (law.lawful c.args.asked.seed c.args.asked.writes few) found.0 was)
