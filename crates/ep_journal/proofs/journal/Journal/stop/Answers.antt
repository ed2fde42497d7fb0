use Rattle.std.proofs.Common.{sym, ◌∙◌, ◌+◌}
use Rattle.ep_journal.specs.Recorded.{Recorded}
use Rattle.ep_journal.proofs.Items.{item-within}
use Rattle.ep_journal.proofs.Methods.{stop-ticket, stop-refused, ticket-known}
use Rattle.ep_journal.proofs.journal.Journal.stop.Goals as goal

pub at-entry-requires : goal.at-entry-requires
at-entry-requires c =
    let r : Recorded = record { table = c.self.inside.table; decisions = c.self.inside.decisions; sessions = c.self.inside.sessions; ended = c.self.inside.ended } in
    ticket-known r c.args.id (c.len-count.result + 1) c.in-Ticket.field-0 c.self.invariant (sym c.stop-answer.ensures.answer ∙ c.in-Ticket.is)

pub set-requires : goal.set-requires
set-requires c = item-within c.self.inside.sessions c.args.id c.at-entry.result c.at-entry.ensures

pub invariant_of-self : goal.invariant_of-self
invariant_of-self c =
    let r : Recorded = record { table = c.self.inside.table; decisions = c.self.inside.decisions; sessions = c.self.inside.sessions; ended = c.self.inside.ended } in
    let answer = sym c.stop-answer.ensures.answer ∙ c.in-Ticket.is in
    rw (c.stop-answer.ensures.after, c.push.ensures, c.set.ensures, c.stopped.ensures, c.len-count.ensures.value)
    (stop-ticket r c.args.id (c.len-count.result + 1) c.in-Ticket.field-0 c.at-entry.result c.self.invariant (rw (← c.self.view_is) at c.requires) answer c.at-entry.ensures)

pub invariant_of-self-in-NotLive : goal.invariant_of-self-in-NotLive
invariant_of-self-in-NotLive c =
    let r : Recorded = record { table = c.self.inside.table; decisions = c.self.inside.decisions; sessions = c.self.inside.sessions; ended = c.self.inside.ended } in
    let answer = sym c.stop-answer.ensures.answer ∙ c.in-NotLive.is in
    rw (c.stop-answer.ensures.after, c.push-in-NotLive.ensures)
    (stop-refused r c.args.id (c.len-count.result + 1) c.in-NotLive.id c.self.invariant (rw (← c.self.view_is) at c.requires) answer)
