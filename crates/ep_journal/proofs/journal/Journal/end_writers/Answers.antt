use Rattle.ep_journal.specs.Recorded.{Recorded}
use Rattle.ep_journal.proofs.Methods.{ended-kept}
use Rattle.ep_journal.proofs.journal.Journal.end_writers.Goals as goal

pub invariant_of-self : goal.invariant_of-self
invariant_of-self c =
    let r : Recorded = record { table = c.self.inside.table; decisions = c.self.inside.decisions; sessions = c.self.inside.sessions; ended = c.self.inside.ended } in ended-kept r c.self.invariant
