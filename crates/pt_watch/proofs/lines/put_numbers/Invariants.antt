-- The numbers so far.
use Rattle.std.proofs.Common.{◌≡◌, ◌++◌, take}
use Rattle.pt_watch.specs.Lines.{begun_line}
use Rattle.pt_watch.proofs.lines.put_numbers.Given as goal

abbrev pub invariant-loop-number : goal.invariant-loop-number
invariant-loop-number l = l.text.items ≡ l.fn.text.items ++ begun_line l.word (take l.number-index l.numbers)
