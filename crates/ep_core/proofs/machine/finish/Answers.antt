use Rattle.ep_model.specs.declared.step.Step.TheVariants as step
use Rattle.ep_core.proofs.Ending.{ended_after, told_stays}
use Rattle.ep_core.proofs.machine.finish.Goals as goal

pub returns-clause-ended : goal.returns-clause-ended
returns-clause-ended c info events past before follow other =
    let law = c.a_finished_session_stays.ensures in
    let session = c.args.of.session in
    let stamp = c.args.stamp in
    ended_after events info past session stamp other c.in_ok-left.left _ _ (c.in_ok-insert.ensures.updates.0 other)
    (law.stays other past (step.Finish session stamp))
    (λ done. told_stays events other past (step.Finish session stamp) (law.same_config events other past (step.Finish session stamp) before.lawful done) (law.same_entries events other past (step.Finish session stamp) before.lawful done))
    (law.same_marks events other past (step.Finish session stamp) before.lawful)
    (c.in_ok-left.ensures.ended events info past before)
    (follow other)
