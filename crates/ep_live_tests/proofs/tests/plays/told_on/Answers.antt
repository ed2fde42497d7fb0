use Rattle.ep_live_tests.proofs.Writing.{program-of}
use Rattle.ep_live_tests.proofs.tests.plays.told_on.Goals as goal

pub run-requires-clause-program : goal.run-requires-clause-program
run-requires-clause-program g c κs within =
    program-of c.args.turns c.in_ok-events.events.items _ c.in_ok-events.ensures c.requires.few c.write-write.ensures.event c.write-write.ensures.fits
