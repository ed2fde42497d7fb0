use Rattle.std.proofs.Common.{◌≡◌, count_by, ◌∙◌}
use Rattle.ep_table.specs.Sessions.{held_count}
use Rattle.ep_journal.specs.Recorded.{Recorded}
use Rattle.ep_journal.specs.Kept.{is_on}
use Rattle.ep_journal.proofs.Finish.{all-told}
use Rattle.ep_journal.proofs.journal.Journal.finish.Goals as goal

pub returns-clause-told : goal.returns-clause-told
returns-clause-told c =
    let r : Recorded = record { table = c.self.inside.table; decisions = c.self.inside.decisions; sessions = c.self.inside.sessions; ended = c.self.inside.ended } in
    let none : count_by is_on r.sessions ≡ 0 = rw (← c.self.view_is) at c.requires in
    let held : held_count r.table ≡ count_by is_on r.sessions = c.self.invariant.held in
    rw (← c.self.view_is) (all-told r c.self.invariant (held ∙ none))
