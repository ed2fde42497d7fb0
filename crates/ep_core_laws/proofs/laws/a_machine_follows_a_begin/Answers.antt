use Rattle.std.proofs.Common.{◌-◌, Some, refl, ◌∙◌}
use Rattle.std.proofs.lemmas.List.{length-set}
use Rattle.ep_model.specs.declared.step.Step.TheVariants as step
use Rattle.ep_core_laws.proofs.Writes.{after_begin}
use Rattle.ep_core_laws.proofs.Sessions.{all_stand}
use Rattle.ep_core_laws.proofs.RestComings.{begin_rests}
use Rattle.ep_core_laws.proofs.Begun.{begin_begun}
use Rattle.ep_core_laws.proofs.Steps.{stands, rows_rest, ids_stay}
use Rattle.ep_core_laws.proofs.laws.a_machine_follows_a_begin.Goals as goal

pub returns : goal.returns
returns c thread stamp write old new begun makes tied info events past before =
    let works = before.works in
    record {
      lawful = before.lawful;
      follow = after_begin events past thread stamp write old new before.lawful works.follow (rows_rest works.rest) makes;
      tied = tied;
      stand = all_stand c.a_session_stands_through_other_steps.ensures events info (step.Begin thread stamp write) past old new (stands before) (λ n. refl) makes.own.sessions makes.own.rows.slots makes.own.rows.pools;
      rest = begin_rests events past thread stamp write old new works.follow makes works.rest;
      begun_are = begin_begun events past thread stamp write old new begun works.follow makes works.begun_count works.begun_are;
      begun_count = length-set begun (makes.own.row - 1) (Some write) ∙ works.begun_count;
      ids = ids_stay old new makes.own.sessions.slots.table makes.own.sessions.slots.last_session works.ids;
    }
