use Rattle.ep_core_laws.proofs.FollowComings.{after_accept_step}
use Rattle.ep_core_laws.proofs.Pools.{pool_accepted}
use Rattle.ep_core_laws.proofs.SessionComings.{accepted_now}
use Rattle.ep_core_laws.proofs.RestComings.{accept_rests}
use Rattle.ep_core_laws.proofs.Begun.{accept_begun}
use Rattle.ep_core_laws.proofs.Steps.{stands, ids_rise}
use Rattle.ep_core_laws.proofs.laws.a_machine_follows_an_accept.Goals as goal

pub returns : goal.returns
returns c info session config old new begun makes tied events past before =
    let works = before.works in
    record {
      lawful = before.lawful;
      follow = after_accept_step events past session config info old new before.lawful works.follow makes;
      tied = tied;
      stand = accepted_now c.a_session_stands_through_other_steps.ensures pool_accepted c.a_new_session_keeps_nothing.ensures events info past session config old new (stands before) makes;
      rest = accept_rests events past session config info old new before.lawful works.follow makes works.rest;
      begun_are = accept_begun past session config info old new begun makes works.begun_are;
      begun_count = works.begun_count;
      ids = ids_rise events past session config info old new before.lawful works.follow makes works.ids;
    }
