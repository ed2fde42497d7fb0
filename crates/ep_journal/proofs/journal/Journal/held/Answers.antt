use Rattle.std.proofs.Common.{◌≡◌, count_by, ◌∙◌}
use Rattle.ep_table.specs.Sessions.{held_count}
use Rattle.ep_journal.specs.Kept.{is_on}
use Rattle.ep_journal.proofs.journal.Journal.held.Goals as goal

pub returns-clause-sessions : goal.returns-clause-sessions
returns-clause-sessions c =
    let h : held_count c.self.inside.table ≡ count_by is_on c.self.inside.sessions = c.self.invariant.held in rw (← c.self.view_is) (c.held.ensures.count ∙ h)
