use Rattle.std.proofs.Common.{◌≡◌, true}
use Rattle.ep_journal.specs.declared.session.Entry.{Entry}
use Rattle.ep_journal.specs.Recorded.{Recorded, may_end}
use Rattle.ep_journal.proofs.Items.{item-within}
use Rattle.ep_journal.proofs.Methods.{may-held, over-kept, passes-is}
use Rattle.ep_journal.proofs.journal.Journal.end.Goals as goal

pub free-requires : goal.free-requires
free-requires c =
    let r : Recorded = record { table = c.self.inside.table; decisions = c.self.inside.decisions; sessions = c.self.inside.sessions; ended = c.self.inside.ended } in
    let may : may_end c.args.fate c.at-entry.result.stage ≡ true =
    passes-is (λ (e : Entry). may_end c.args.fate e.stage) r.sessions c.args.id c.at-entry.result (rw (← c.self.view_is) at c.requires) c.at-entry.ensures in
    may-held r c.args.id c.at-entry.result c.args.fate c.self.invariant c.at-entry.ensures may

pub set-requires : goal.set-requires
set-requires c = item-within c.self.inside.sessions c.args.id c.at-entry.result c.at-entry.ensures

pub invariant_of-self : goal.invariant_of-self
invariant_of-self c =
    let r : Recorded = record { table = c.self.inside.table; decisions = c.self.inside.decisions; sessions = c.self.inside.sessions; ended = c.self.inside.ended } in
    let may : may_end c.args.fate c.at-entry.result.stage ≡ true =
    passes-is (λ (e : Entry). may_end c.args.fate e.stage) r.sessions c.args.id c.at-entry.result (rw (← c.self.view_is) at c.requires) c.at-entry.ensures in
    rw (c.free.ensures, c.set.ensures, c.staged.ensures, c.len-count.ensures.value) (over-kept r c.args.id c.at-entry.result c.args.fate c.self.invariant c.at-entry.ensures may)
