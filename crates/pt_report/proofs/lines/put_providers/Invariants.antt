use Rattle.std.proofs.Common.{◌≡◌, ℕ, List, ◌++◌}
use Rattle.std.specs.Cmp.Lexicographic.{slice_cmp}
use Rattle.std.specs.Ordering.{nat_cmp}
use Rattle.std.specs.List.{flat_map}
use Rattle.std.specs.BTreeMap.{keys}
use Rattle.pt_report.specs.Order.{uses_of}
use Rattle.pt_report.specs.Report.{provider_line}
use Rattle.pt_report.specs.state.Counts.{Counts}
use Rattle.pt_report.proofs.lines.put_providers.Given as goal

abbrev pub invariant-loop-name : goal.invariant-loop-name
invariant-loop-name l =
    (names uses : List (List ℕ)) → Counts (slice_cmp nat_cmp) names uses l.providers → l.out.items ++ flat_map (λ key. provider_line key (uses_of (slice_cmp nat_cmp) uses key)) l.name-iterator ≡ l.fn.out.items ++ flat_map (λ key. provider_line key (uses_of (slice_cmp nat_cmp) uses key)) (keys l.providers.places)
