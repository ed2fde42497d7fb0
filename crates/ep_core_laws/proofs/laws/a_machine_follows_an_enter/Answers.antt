use Rattle.std.proofs.Common.{refl}
use Rattle.ep_model.specs.declared.step.Step.TheVariants as step
use Rattle.ep_core_laws.proofs.Entering.{after_enter}
use Rattle.ep_core_laws.proofs.Sessions.{all_stand}
use Rattle.ep_core_laws.proofs.RestComings.{enter_rests}
use Rattle.ep_core_laws.proofs.Begun.{enter_begun}
use Rattle.ep_core_laws.proofs.Steps.{stands, ids_stay}
use Rattle.ep_core_laws.proofs.laws.a_machine_follows_an_enter.Goals as goal

pub returns : goal.returns
returns c thread old new begun makes tied info events past before =
    let works = before.works in
    record {
      lawful = before.lawful;
      follow = after_enter events past thread old new before.lawful works.follow makes;
      tied = tied;
      stand = all_stand c.a_session_stands_through_other_steps.ensures events info (step.Enter thread) past old new (stands before) (λ n. refl) makes.sessions makes.rows.slots makes.rows.pools;
      rest = enter_rests events past thread old new before.lawful works.follow makes works.rest;
      begun_are = enter_begun events past thread old new begun works.rest makes works.begun_are;
      begun_count = works.begun_count;
      ids = ids_stay old new makes.sessions.slots.table makes.sessions.slots.last_session works.ids;
    }
