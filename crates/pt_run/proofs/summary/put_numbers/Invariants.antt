-- The numbers so far.
use Rattle.std.proofs.Common.{◌≡◌, ◌++◌, take}
use Rattle.pt_run.specs.Summary.{begun_line}
use Rattle.pt_run.proofs.summary.put_numbers.Given as goal

abbrev pub invariant-loop-number : goal.invariant-loop-number
invariant-loop-number l = l.text.items ≡ l.fn.text.items ++ begun_line l.word (take l.number-index l.numbers)
