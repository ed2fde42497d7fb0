use Rattle.ep_model.specs.declared.step.Step.TheVariants as step
use Rattle.ep_rows.specs.Rows.{told_of}
use Rattle.ep_stream.specs.Session.{rest_of}
use Rattle.ep_tables.specs.Made.{Gives}
use Rattle.ep_core_laws.proofs.FollowTurns.{after_give}
use Rattle.ep_core_laws.proofs.Sessions.{one_stands}
use Rattle.ep_core_laws.proofs.Slots.{slot_stays}
use Rattle.ep_core_laws.proofs.Pools.{pool_gives}
use Rattle.ep_core_laws.proofs.SessionTurns.{given, given_now}
use Rattle.ep_core_laws.proofs.RestTurns.{give_rests}
use Rattle.ep_core_laws.proofs.Begun.{give_begun}
use Rattle.ep_core_laws.proofs.Steps.{stands, ids_stay}
use Rattle.ep_core_laws.proofs.laws.a_machine_follows_a_give.Goals as goal

pub returns : goal.returns
returns c session old new begun makes tied info events past before =
    let works = before.works in
    let counted = c.a_budget_can_be_counted.ensures in
    let back = given makes.was.slot (rest_of makes.was.session).in_hand (told_of old.rows) (told_of new.rows) makes.changes.told in
    record {
      lawful = before.lawful;
      follow = after_give events past session old new before.lawful works.follow makes;
      tied = tied;
      stand = one_stands c.a_session_stands_through_other_steps.ensures events info (step.Give session) past old new session Gives (stands before) makes (λ n off. off)
          (λ slot other. record { slots = λ r. back.slots r slot; pool = back.others slot other })
          (given_now slot_stays (pool_gives counted.in_hand counted.held) c.what_is_given_back_is_not_in_hand.ensures events info past session old new (stands before) makes);
      rest = give_rests events past session old new makes works.rest;
      begun_are = give_begun past session old new begun makes works.begun_are;
      begun_count = works.begun_count;
      ids = ids_stay old new makes.slots.table makes.slots.last_session works.ids;
    }
