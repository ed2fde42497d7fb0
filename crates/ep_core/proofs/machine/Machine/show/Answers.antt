use Rattle.ep_core.proofs.machine.Machine.show.Goals as goal

pub returns : goal.returns
returns c =
    let stepped = c.step.ensures in
    record {
      made = stepped.made;
      unlawful = stepped.unlawful;
      unchanged = stepped.unchanged;
      failed = stepped.failed;
      stays = stepped.stays;
      working = stepped.working;
      counted = stepped.counted;
      numbered = stepped.numbered;
      uncounted = stepped.uncounted;
    }
