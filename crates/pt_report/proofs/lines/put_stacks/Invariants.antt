use Rattle.std.proofs.Common.{◌≡◌, ℕ, List, ◌++◌}
use Rattle.std.specs.Cmp.Lexicographic.{slice_cmp}
use Rattle.std.specs.Ordering.{nat_cmp}
use Rattle.std.specs.List.{flat_map}
use Rattle.std.specs.BTreeMap.{keys}
use Rattle.pt_report.specs.Order.{uses_of}
use Rattle.pt_report.specs.Report.{stack_line}
use Rattle.pt_report.specs.state.Counts.{Counts}
use Rattle.pt_report.proofs.lines.put_stacks.Given as goal

abbrev pub invariant-loop-stack : goal.invariant-loop-stack
invariant-loop-stack l =
    (names uses : List (List ℕ)) → Counts (slice_cmp nat_cmp) names uses l.stacks → l.out.items ++ flat_map (λ key. stack_line key (uses_of (slice_cmp nat_cmp) uses key)) l.stack-iterator ≡ l.fn.out.items ++ flat_map (λ key. stack_line key (uses_of (slice_cmp nat_cmp) uses key)) (keys l.stacks.places)
