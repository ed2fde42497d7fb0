use Rattle.ep_model.specs.declared.step.Step.TheVariants as step
use Rattle.ep_rows.specs.Rows.{told_of}
use Rattle.ep_tables.specs.Made.{ClosesOn}
use Rattle.ep_core_laws.proofs.FollowTurns.{after_close}
use Rattle.ep_core_laws.proofs.Sets.{set_off_slot}
use Rattle.ep_core_laws.proofs.Sessions.{one_stands, pending_counted}
use Rattle.ep_core_laws.proofs.Slots.{slot_stays, slot_marked}
use Rattle.ep_core_laws.proofs.Pools.{pool_stays}
use Rattle.ep_core_laws.proofs.SessionTurns.{closed_now}
use Rattle.ep_core_laws.proofs.RestTurns.{close_rests}
use Rattle.ep_core_laws.proofs.Begun.{close_begun}
use Rattle.ep_core_laws.proofs.Steps.{stands, ids_stay}
use Rattle.ep_core_laws.proofs.laws.a_machine_follows_a_close.Goals as goal

pub returns : goal.returns
returns c session thread old new begun makes tied info events past before =
    let works = before.works in
    record {
      lawful = before.lawful;
      follow = after_close events past session thread old new before.lawful works.follow makes (pending_counted events info (step.Close session thread) past session thread makes.row makes.one.place makes.one.was old (stands before) makes.is_row makes.own makes.one.stands);
      tied = tied;
      stand = one_stands c.a_session_stands_through_other_steps.ensures events info (step.Close session thread) past old new session (ClosesOn old.events.items makes.row) (stands before) makes.one (λ n off. off)
          (λ slot other. record {
            slots = set_off_slot makes.row makes.one.was.slot _ (told_of old.rows).slot (told_of new.rows).slot makes.one.changes.told.slots slot other;
            pool = makes.one.changes.told.pools slot;
          })
          (closed_now slot_stays pool_stays slot_marked c.a_closed_thread_is_marked.ensures c.entries_are_what_was_told.ensures.closed events info past session thread old new (stands before) makes);
      rest = close_rests events past session thread old new works.follow makes works.rest;
      begun_are = close_begun past session thread old new begun makes works.begun_are;
      begun_count = works.begun_count;
      ids = ids_stay old new makes.one.slots.table makes.one.slots.last_session works.ids;
    }
