use Rattle.std.proofs.Common.{◌≡◌, List, ◌++◌}
use Rattle.std.specs.List.{flat_map}
use Rattle.std.specs.BTreeMap.{keys}
use Rattle.pt_report.specs.declared.key.EventKey.{EventKey}
use Rattle.pt_report.specs.Keys.{key_order}
use Rattle.pt_report.specs.Order.{uses_of}
use Rattle.pt_report.specs.Report.{event_line}
use Rattle.pt_report.specs.state.Counts.{Counts}
use Rattle.pt_report.proofs.lines.put_events.Given as goal

abbrev pub invariant-loop-event : goal.invariant-loop-event
invariant-loop-event l =
    (names uses : List EventKey) → Counts key_order names uses l.counts → l.out.items ++ flat_map (λ key. event_line key (uses_of key_order uses key)) l.event-iterator ≡ l.fn.out.items ++ flat_map (λ key. event_line key (uses_of key_order uses key)) (keys l.counts.places)
