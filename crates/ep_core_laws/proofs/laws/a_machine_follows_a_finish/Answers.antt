use Rattle.ep_core_laws.proofs.FollowComings.{after_finish}
use Rattle.ep_core_laws.proofs.SessionComings.{finished_now}
use Rattle.ep_core_laws.proofs.RestComings.{finish_rests}
use Rattle.ep_core_laws.proofs.Begun.{finish_begun}
use Rattle.ep_core_laws.proofs.Steps.{stands, ids_freed}
use Rattle.ep_core_laws.proofs.laws.a_machine_follows_a_finish.Goals as goal

pub returns : goal.returns
returns c session stamp old new begun makes tied info events past before =
    let works = before.works in
    record {
      lawful = before.lawful;
      follow = after_finish events past session stamp old new before.lawful works.follow makes;
      tied = tied;
      stand = finished_now c.a_session_stands_through_other_steps.ensures events info past session stamp old new (stands before) makes;
      rest = finish_rests events past session stamp old new makes works.rest;
      begun_are = finish_begun past session stamp old new begun makes works.begun_are;
      begun_count = works.begun_count;
      ids = ids_freed old new makes.was.slot makes.table makes.last_session works.ids;
    }
