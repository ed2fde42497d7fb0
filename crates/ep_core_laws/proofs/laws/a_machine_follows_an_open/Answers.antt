use Rattle.ep_model.specs.declared.step.Step.TheVariants as step
use Rattle.ep_rows.specs.Rows.{told_of}
use Rattle.ep_tables.specs.Made.{OpensOn}
use Rattle.ep_core_laws.proofs.FollowTurns.{after_open}
use Rattle.ep_core_laws.proofs.Sets.{set_off_slot}
use Rattle.ep_core_laws.proofs.Sessions.{one_stands}
use Rattle.ep_core_laws.proofs.Slots.{slot_stays, slot_opened}
use Rattle.ep_core_laws.proofs.Pools.{pool_stays}
use Rattle.ep_core_laws.proofs.SessionTurns.{opened_now}
use Rattle.ep_core_laws.proofs.RestTurns.{open_rests}
use Rattle.ep_core_laws.proofs.Begun.{open_begun}
use Rattle.ep_core_laws.proofs.Steps.{stands, ids_stay}
use Rattle.ep_core_laws.proofs.laws.a_machine_follows_an_open.Goals as goal

pub returns : goal.returns
returns c session thread old new begun makes tied info events past before =
    let works = before.works in
    record {
      lawful = before.lawful;
      follow = after_open events past session thread old new before.lawful works.follow makes;
      tied = tied;
      stand = one_stands c.a_session_stands_through_other_steps.ensures events info (step.Open session thread) past old new session (OpensOn old.events.items thread makes.row) (stands before) makes.one (λ n off. off)
          (λ slot other. record {
            slots = set_off_slot makes.row makes.one.was.slot _ (told_of old.rows).slot (told_of new.rows).slot makes.one.changes.told.slots slot other;
            pool = makes.one.changes.told.pools slot;
          })
          (opened_now slot_stays pool_stays slot_opened c.an_opened_thread_is_named.ensures events info past session thread old new (stands before) makes);
      rest = open_rests events past session thread old new works.follow makes works.rest;
      begun_are = open_begun past session thread old new begun makes works.begun_are;
      begun_count = works.begun_count;
      ids = ids_stay old new makes.one.slots.table makes.one.slots.last_session works.ids;
    }
