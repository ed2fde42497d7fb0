use Rattle.std.proofs.Common.{◌∙◌, sym}
use Rattle.pt_server_tests.proofs.tests.connect.Goals as goal

pub answer-requires-clause-fresh : goal.answer-requires-clause-fresh
answer-requires-clause-fresh g c κs outlives =
    let unused = c.in_ok-link.ensures in
    record { none = unused.given; greeted = unused.taken ∙ sym c.requires.greeting; reads = unused.reads; writes = unused.writes }
