use Rattle.ep_rows.specs.Rows.{told_of}
use Rattle.ep_core_laws.proofs.Shows.{due_few, due_taken, last_shown, writing_found, not_unkept}
use Rattle.ep_core_laws.proofs.Steps.{stands}
use Rattle.ep_core_laws.proofs.laws.a_due_write_can_be_taken.Goals as goal

pub returns : goal.returns
returns c =
    let counted = c.a_budget_can_be_counted.ensures.in_hand in
    record {
      kept = λ thread session row tables begun goes own.
          let before = goes.before in
          let works = before.works in
          let writing = writing_found goes.events goes.past thread session row tables works.follow before.lawful own in
          not_unkept goes.past (told_of tables.rows) begun row works.begun_are writing.0 writing.1;
      taken = λ thread session row write tables begun goes own kept.
          let before = goes.before in
          let works = before.works in
          due_taken (due_few c.lawful_lists_are_limited.ensures.begins) counted goes.events goes.info goes.past thread session _ write tables (stands before)
          (last_shown goes.events goes.past thread session row write tables begun works.follow before.lawful works.begun_are own kept);
    }
