use Rattle.std.proofs.Common.{sym, ◌∙◌}
use Rattle.ep_journal.specs.Recorded.{Recorded}
use Rattle.ep_journal.proofs.Methods.{accept-seat, accept-full}
use Rattle.ep_journal.proofs.journal.Journal.accept.Goals as goal

pub invariant_of-self : goal.invariant_of-self
invariant_of-self c =
    let r : Recorded = record { table = c.self.inside.table; decisions = c.self.inside.decisions; sessions = c.self.inside.sessions; ended = c.self.inside.ended } in
    let answer = sym c.accept-answer.ensures.answer ∙ c.in-Seat.is in
    rw (c.accept-answer.ensures.after, c.push-in-Seat.ensures, c.push.ensures, c.begun.ensures, c.len-conn.ensures.value)
    (accept-seat r c.in-Seat.slot c.in-Seat.id c.self.invariant (rw (← c.self.view_is) at c.requires) answer)

pub invariant_of-self-in-Full : goal.invariant_of-self-in-Full
invariant_of-self-in-Full c =
    let r : Recorded = record { table = c.self.inside.table; decisions = c.self.inside.decisions; sessions = c.self.inside.sessions; ended = c.self.inside.ended } in
    let answer = sym c.accept-answer.ensures.answer ∙ c.in-Full.is in
    rw (c.accept-answer.ensures.after, c.push-in-Full.ensures)
    (accept-full r c.self.invariant (rw (← c.self.view_is) at c.requires) (c.accept-answer.ensures.full.0 c.in-Full.is) answer)
