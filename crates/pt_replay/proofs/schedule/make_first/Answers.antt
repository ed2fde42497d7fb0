-- A new machine has made no step.
use Rattle.std.proofs.Common.{[], refl, arith}
use Rattle.pt_replay.proofs.schedule.make_first.Goals as goal

pub returns-clause-made : goal.returns-clause-made
returns-clause-made c =
    let made = c.in_ok-make_on.ensures.made c.args.events.now [] c.in_ok-fresh.ensures.fresh in
    let one = c.in_ok-make_on.ensures.counted in
    let zero = c.in_ok-fresh.ensures.counted in
    (made.0, (made.1, omega (arith, one, zero, c.requires.count), refl))
