use Rattle.ep_journal.specs.Recorded.{Recorded}
use Rattle.ep_journal.specs.Kept.{is_serving_entry}
use Rattle.ep_journal.proofs.Methods.{opened-kept, passes-is}
use Rattle.ep_journal.proofs.journal.Journal.open.Goals as goal

pub invariant_of-self : goal.invariant_of-self
invariant_of-self c =
    let r : Recorded = record { table = c.self.inside.table; decisions = c.self.inside.decisions; sessions = c.self.inside.sessions; ended = c.self.inside.ended } in
    let serves = passes-is is_serving_entry r.sessions c.args.id c.at-entry.result (rw (← c.self.view_is) at c.requires) c.at-entry.ensures in
    rw (c.set.ensures, c.opened_at-opened.ensures) (opened-kept r c.args.id c.at-entry.result c.args.early c.self.invariant c.at-entry.ensures serves)
