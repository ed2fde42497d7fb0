use Rattle.std.proofs.Common.{ap}
use Rattle.ep_model.specs.declared.step.Step.TheVariants as step
use Rattle.ep_stream.specs.Steps.{ToldRows}
use Rattle.ep_tables.specs.Made.{Points}
use Rattle.ep_core_laws.proofs.FollowTurns.{after_point}
use Rattle.ep_core_laws.proofs.Sessions.{one_stands}
use Rattle.ep_core_laws.proofs.Slots.{slot_stays}
use Rattle.ep_core_laws.proofs.Pools.{pool_stays}
use Rattle.ep_core_laws.proofs.SessionTurns.{pointed_now}
use Rattle.ep_core_laws.proofs.RestTurns.{point_rests}
use Rattle.ep_core_laws.proofs.Begun.{point_begun}
use Rattle.ep_core_laws.proofs.Steps.{stands, ids_stay}
use Rattle.ep_core_laws.proofs.laws.a_machine_follows_a_point.Goals as goal

pub returns : goal.returns
returns c session stamp old new begun makes tied info events past before =
    let works = before.works in
    record {
      lawful = before.lawful;
      follow = after_point events past session stamp old new before.lawful works.follow makes;
      tied = tied;
      stand = one_stands c.a_session_stands_through_other_steps.ensures events info (step.Point session stamp) past old new session (Points old.events.items stamp) (stands before) makes (λ n off. off)
          (λ slot other. record { slots = λ r. ap (λ (t : ToldRows). t.slot r slot) makes.changes.told; pool = ap (λ (t : ToldRows). t.pool slot) makes.changes.told })
          (pointed_now slot_stays pool_stays c.a_point_forgets_closed_threads.ensures c.entries_are_what_was_told.ensures.pointed events info past session stamp old new (stands before) makes);
      rest = point_rests events past session stamp old new makes works.rest;
      begun_are = point_begun past session stamp old new begun makes works.begun_are;
      begun_count = works.begun_count;
      ids = ids_stay old new makes.slots.table makes.slots.last_session works.ids;
    }
