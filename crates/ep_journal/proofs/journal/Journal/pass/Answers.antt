use Rattle.std.proofs.Common.{refl}
use Rattle.ep_journal.specs.declared.decision.Decision.TheVariants as decision
use Rattle.ep_journal.specs.Recorded.{Recorded}
use Rattle.ep_journal.proofs.Steps.{decided-kept}
use Rattle.ep_journal.proofs.journal.Journal.pass.Goals as goal

pub invariant_of-self : goal.invariant_of-self
invariant_of-self c =
    let r : Recorded = record { table = c.self.inside.table; decisions = c.self.inside.decisions; sessions = c.self.inside.sessions; ended = c.self.inside.ended } in
    rw c.push.ensures (decided-kept r decision.Nothing c.self.invariant (rw (← c.self.view_is) at c.requires) refl)
