use Rattle.std.proofs.Common.{ℕ, refl, ap}
use Rattle.pt_report.specs.declared.counters.Counters.{Counters}
use Rattle.pt_report.specs.declared.counters.Totals.{Totals}
use Rattle.pt_report.proofs.Counted.{event-shown}
use Rattle.pt_report.proofs.counters.Counters.count_event.Goals as goal

pub returns : goal.returns
returns c = λ kinds entries more rest h known told.
    let old = c.args.self.now in
    let e = c.args.event.now in
    let totals : Totals = record old.totals { events = c.saturating_add-self.result } in
    let new : Counters = record { trace = old.trace; totals = totals; events = c.count-2.new.self; threads = c.name_one.new.tally; stacks = c.count.new.self } in
    event-shown kinds entries more old new h e.metadata e.number e.capture rest.processor rest.thread e.stack rest.stamp rest.activity rest.related rest.payload told refl (ap (λ (n : ℕ). record old.totals { events = n }) c.saturating_add-self.ensures)
    (λ def is. c.count-2.ensures _ _ _ def h.events_are is)
    (c.in_ok-name_one.ensures kinds known h.threads_are)
    (λ bytes is. c.in_ok-count.ensures _ _ bytes h.stacks_are is)
