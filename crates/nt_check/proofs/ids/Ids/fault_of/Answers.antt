use Rattle.nt_check.specs.Events.{EventRest}
use Rattle.nt_check.proofs.ids.Ids.fault_of.Goals as goal

pub returns-in-Event : goal.returns-in-Event
returns-in-Event c = λ names knows.
    let e = c.in-Event in
    let rest : EventRest = record {
      processor = e.processor;
      thread = e.thread;
      stamp = e.stamp;
      activity = e.activity;
      related = e.related;
      payload = e.payload;
    } in
    rw e.is (c.event_fault.ensures names knows rest)
