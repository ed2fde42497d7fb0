use Rattle.std.proofs.Common.{◌≡◌, List, ◌++◌}
use Rattle.std.specs.List.{flat_map}
use Rattle.std.specs.BTreeMap.{keys}
use Rattle.ep_defs.specs.declared.item.ItemKind.{ItemKind}
use Rattle.nt_check.specs.Numbers.{numbers_of}
use Rattle.nt_check.specs.state.Took.{Took}
use Rattle.pt_report.specs.Report.{numbers_line}
use Rattle.pt_report.proofs.lines.put_threads.Given as goal

abbrev pub invariant-loop-thread : goal.invariant-loop-thread
invariant-loop-thread l =
    (kinds : List ItemKind) → Took kinds l.checker → l.out.items ++ flat_map (λ thread. numbers_line thread (numbers_of thread kinds)) l.thread-iterator ≡ l.fn.out.items ++ flat_map (λ thread. numbers_line thread (numbers_of thread kinds)) (keys l.threads.places)
