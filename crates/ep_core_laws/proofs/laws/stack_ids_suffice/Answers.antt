use Rattle.ep_model.specs.declared.step.Step.TheVariants as step
use Rattle.ep_core_laws.proofs.Spent.{takes_enough, points_enough, ends_enough}
use Rattle.ep_core_laws.proofs.Steps.{stands}
use Rattle.ep_core_laws.proofs.laws.stack_ids_suffice.Goals as goal

pub returns : goal.returns
returns c =
    let limited = c.lawful_lists_are_limited.ensures.begins in
    record {
      steal = λ session thread tables begun goes. takes_enough limited goes.events goes.info (step.Steal session thread) goes.past session thread tables (stands goes.before);
      close = λ session thread tables begun goes. takes_enough limited goes.events goes.info (step.Close session thread) goes.past session thread tables (stands goes.before);
      point = λ session stamp tables begun goes. points_enough limited goes.events goes.info (step.Point session stamp) goes.past session stamp tables (stands goes.before);
      end = λ session stamp tables begun end goes. ends_enough limited goes.events goes.info (step.Finish session stamp) goes.past session stamp tables end (stands goes.before);
    }
