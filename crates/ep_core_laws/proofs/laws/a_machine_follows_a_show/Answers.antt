use Rattle.ep_model.specs.declared.step.Step.TheVariants as step
use Rattle.ep_rows.specs.Rows.{told_of}
use Rattle.ep_core_laws.proofs.Writes.{after_show}
use Rattle.ep_core_laws.proofs.Sets.{set_off_slot}
use Rattle.ep_core_laws.proofs.Sessions.{one_stays}
use Rattle.ep_core_laws.proofs.Slots.{slot_stays, slot_shown}
use Rattle.ep_core_laws.proofs.Pools.{pool_refuses, pool_shown}
use Rattle.ep_core_laws.proofs.Shows.{shown_now, last_shown}
use Rattle.ep_core_laws.proofs.RestTurns.{show_rests}
use Rattle.ep_core_laws.proofs.Begun.{show_begun}
use Rattle.ep_core_laws.proofs.Steps.{stands, ids_stay}
use Rattle.ep_core_laws.proofs.laws.a_machine_follows_a_show.Goals as goal

pub returns : goal.returns
returns c thread session write old new begun makes tied kept info events past before =
    let works = before.works in
    let counted = c.a_budget_can_be_counted.ensures in
    let last = last_shown events past thread session makes.row write old begun works.follow before.lawful works.begun_are makes.own kept in
    record {
      lawful = before.lawful;
      follow = after_show events past thread session write old new before.lawful works.follow makes;
      tied = tied;
      stand = one_stays c.a_session_stands_through_other_steps.ensures events info (step.Show thread session) past old new session makes.place makes.present (stands before) makes.stands makes.sessions (λ n off. off)
          (λ slot other. record {
            slots = set_off_slot makes.row makes.present.slot _ (told_of old.rows).slot (told_of new.rows).slot makes.rows.slots slot other;
            pool = makes.rows.pools slot other;
          })
          (shown_now slot_stays (slot_shown counted.refused)
          (λ events past session thread slot stamp write shown old new. pool_refuses events past session thread slot stamp write shown old new (counted.refused session thread past))
          (λ events past session thread slot stamp write shown old new. pool_shown events past session thread slot stamp write shown old new (counted.refused session thread past))
          c.other_steps_change_nothing_kept.ensures.follows events info past thread session write old new (stands before) makes last);
      rest = show_rests events past thread session write old new works.follow makes last works.rest;
      begun_are = show_begun past thread session write old new begun makes works.begun_are;
      begun_count = works.begun_count;
      ids = ids_stay old new makes.sessions.slots.table makes.sessions.slots.last_session works.ids;
    }
