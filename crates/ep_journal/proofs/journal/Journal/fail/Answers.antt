use Rattle.std.proofs.Common.{◌≡◌, true}
use Rattle.ep_journal.specs.Recorded.{Recorded, is_serving}
use Rattle.ep_journal.specs.Kept.{is_serving_entry}
use Rattle.ep_journal.proofs.Items.{item-within}
use Rattle.ep_journal.proofs.Methods.{failed-last, slot-held, serving-on, passes-is}
use Rattle.ep_journal.proofs.journal.Journal.fail.Goals as goal

pub free-requires : goal.free-requires
free-requires c =
    let r : Recorded = record { table = c.self.inside.table; decisions = c.self.inside.decisions; sessions = c.self.inside.sessions; ended = c.self.inside.ended } in
    let serves : is_serving c.at-entry.result.stage ≡ true =
    passes-is is_serving_entry r.sessions c.args.id c.at-entry.result (rw (← c.self.view_is) at c.requires.serves) c.at-entry.ensures in
    slot-held r c.args.id c.at-entry.result c.self.invariant c.at-entry.ensures (serving-on c.at-entry.result.stage serves)

pub set-requires : goal.set-requires
set-requires c = item-within c.self.inside.sessions c.args.id c.at-entry.result c.at-entry.ensures

pub invariant_of-self : goal.invariant_of-self
invariant_of-self c =
    let r : Recorded = record { table = c.self.inside.table; decisions = c.self.inside.decisions; sessions = c.self.inside.sessions; ended = c.self.inside.ended } in
    let serves : is_serving c.at-entry.result.stage ≡ true =
    passes-is is_serving_entry r.sessions c.args.id c.at-entry.result (rw (← c.self.view_is) at c.requires.serves) c.at-entry.ensures in
    rw (c.free.ensures, c.set-2.ensures, c.from.ensures, c.set.ensures, c.staged.ensures, c.len-count.ensures.value)
    (failed-last r c.args.id c.at-entry.result c.self.invariant c.at-entry.ensures serves (rw (← c.self.view_is) at c.requires.last))
