use Rattle.std.proofs.Common.{◌≡◌, true}
use Rattle.ep_journal.specs.Recorded.{Recorded, is_serving}
use Rattle.ep_journal.specs.Kept.{is_serving_entry}
use Rattle.ep_journal.proofs.Methods.{requested-kept, program-kept, passes-is}
use Rattle.ep_journal.proofs.journal.Journal.look.Goals as goal

pub invariant_of-self : goal.invariant_of-self
invariant_of-self c =
    let r : Recorded = record { table = c.self.inside.table; decisions = c.self.inside.decisions; sessions = c.self.inside.sessions; ended = c.self.inside.ended } in
    let serves : is_serving c.at-entry.result.stage ≡ true =
    passes-is is_serving_entry r.sessions c.args.id c.at-entry.result (rw (← c.self.view_is) at c.requires) c.at-entry.ensures in
    rw (c.set.ensures, c.staged.ensures, c.len-count.ensures.value)
    (requested-kept r c.args.id c.in-Some.conn c.at-entry.result c.self.invariant c.at-entry.ensures serves c.in-Some.is)

pub invariant_of-self-then-self : goal.invariant_of-self-then-self
invariant_of-self-then-self c =
    let r : Recorded = record { table = c.self.inside.table; decisions = c.self.inside.decisions; sessions = c.self.inside.sessions; ended = c.self.inside.ended } in
    let serves : is_serving c.at-entry.result.stage ≡ true =
    passes-is is_serving_entry r.sessions c.args.id c.at-entry.result (rw (← c.self.view_is) at c.requires) c.at-entry.ensures in
    rw (c.stop.ensures.after, c.set-in-None.ensures, c.staged-in-None.ensures, c.len-count.ensures.value)
    (program-kept r c.args.id c.at-entry.result c.self.invariant c.at-entry.ensures serves c.in-None.is c.if-self.true)
