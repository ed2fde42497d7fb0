use Rattle.std.proofs.Common.{refl}
use Rattle.ep_model.specs.declared.step.Step.TheVariants as step
use Rattle.ep_core_laws.proofs.OwnSteps.{after_leave}
use Rattle.ep_core_laws.proofs.Sessions.{all_stand}
use Rattle.ep_core_laws.proofs.RestTurns.{leave_rests}
use Rattle.ep_core_laws.proofs.Begun.{leave_begun}
use Rattle.ep_core_laws.proofs.Steps.{stands, ids_stay}
use Rattle.ep_core_laws.proofs.laws.a_machine_follows_a_leave.Goals as goal

pub returns : goal.returns
returns c thread old new begun makes tied info events past before =
    let works = before.works in
    record {
      lawful = before.lawful;
      follow = after_leave events past thread old new before.lawful works.follow makes;
      tied = tied;
      stand = all_stand c.a_session_stands_through_other_steps.ensures events info (step.Leave thread) past old new (stands before) (λ n. refl) makes.own.sessions makes.own.rows.slots makes.own.rows.pools;
      rest = leave_rests events past thread old new works.follow makes works.rest;
      begun_are = leave_begun past thread old new begun makes works.begun_are;
      begun_count = works.begun_count;
      ids = ids_stay old new makes.own.sessions.slots.table makes.own.sessions.slots.last_session works.ids;
    }
