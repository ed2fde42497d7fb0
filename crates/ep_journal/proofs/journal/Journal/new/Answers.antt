use Rattle.ep_journal.proofs.Methods.{nothing-kept}
use Rattle.ep_journal.proofs.journal.Journal.new.Goals as goal

pub invariant_of-result : goal.invariant_of-result
invariant_of-result c = rw (c.new-3.ensures, c.in_ok-decisions.ensures, c.in_ok-sessions.ensures) nothing-kept
