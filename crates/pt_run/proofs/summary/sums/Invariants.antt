-- The sums over the marks so far.
use Rattle.std.proofs.Common.{◌≡◌, ◌*◌, ◌≤◌, take}
use Rattle.std.specs.List.{sum_by}
use Rattle.pt_run.proofs.summary.sums.Given as goal

abbrev pub invariant-loop-mark : goal.invariant-loop-mark
invariant-loop-mark l =
    record {
      written : l.written ≡ sum_by (λ mark. mark.taken) (take l.mark-index l.marks);
      refused : l.refused ≡ sum_by (λ mark. mark.refused) (take l.mark-index l.marks);
      written_few : l.written ≤ l.mark-index * 4294967295;
      refused_few : l.refused ≤ l.mark-index * 4294967295;
    }
