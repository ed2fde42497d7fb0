use Rattle.pt_live_tests.proofs.Testing.{program-of}
use Rattle.pt_live_tests.proofs.tests.stream.run.Goals as goal

pub middle-requires-clause-program : goal.middle-requires-clause-program
middle-requires-clause-program g c =
    program-of 3 _ _ c.events-events.ensures.one c.events-events.ensures.valid c.events-events.ensures.lacks c.write-write.ensures.event c.write-write.ensures.fits
