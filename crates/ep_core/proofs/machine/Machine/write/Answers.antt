use Rattle.std.proofs.Common.{sym, subst, arith}
use Rattle.std.specs.BTreeMap.{get}
use Rattle.std.specs.Ordering.{nat_cmp}
use Rattle.ep_defs.specs.declared.session.TraceInfo.{TraceInfo}
use Rattle.ep_core_laws.specs.Works.{Works}
use Rattle.ep_core.specs.Writes.{with_write}
use Rattle.ep_core.proofs.Ending.{ended_stays, told_stays}
use Rattle.ep_core.proofs.Writing.{whole_count, whole_ended}
use Rattle.ep_core.proofs.machine.Machine.write.Goals as goal

pub make_whole-requires : goal.make_whole-requires
make_whole-requires c =
    let can = c.requires.can in
    record {
      events = can.events;
      info = can.info;
      past = can.past;
      begun = c.args.self.now.work.begun.items;
      works = can.follows.works;
      lawful = can.lawful;
    }

pub invariant_of-self : goal.invariant_of-self
invariant_of-self c =
    let can = c.requires.can in
    let begun = c.args.self.now.work.begun.items in
    let after = with_write c.args.thread c.args.stamp c.args.write.now c.args.sessions.now can.past in
    let Holds : TraceInfo → Type 0 = λ info. Works can.events info after c.make_whole.new.tables begun in
    record {
      stands = λ _. ∣ record {
        events = can.events;
        past = after;
        works = subst Holds (sym can.follows.info_is) (c.make_whole.ensures can.events can.info can.past begun can.follows.works can.lawful);
      } ∣₁;
    }

pub returns-clause-made : goal.returns-clause-made
returns-clause-made c events info past follows lawful =
    let law = c.a_finished_session_stays.ensures in
    let self = c.args.self.now in
    record {
      count = omega (arith, follows.count, whole_count c.args.thread c.args.stamp c.args.write.now c.args.sessions.now past);
      info_is = follows.info_is;
      works = c.make_whole.ensures events info past self.work.begun.items follows.works lawful;
      ended = whole_ended events info self.ended
          (λ made earlier goes_on can h session.
          ended_stays events info session earlier made (get nat_cmp self.ended session) (goes_on session) (law.stays session earlier made)
          (λ done. told_stays events session earlier made (law.same_config events session earlier made can done) (law.same_entries events session earlier made can done))
          (law.same_marks events session earlier made can) (h session))
          c.args.thread c.args.stamp c.args.write.now c.args.sessions.now past lawful follows.ended;
    }
