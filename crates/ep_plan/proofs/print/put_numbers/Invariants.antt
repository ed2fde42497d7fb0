use Rattle.std.proofs.Common.{◌≡◌, ◌++◌, take}
use Rattle.std.specs.List.{join_with_byte}
use Rattle.ep_plan.specs.Lines.{form_of}
use Rattle.ep_plan.specs.Words.{space}
use Rattle.ep_plan.specs.Printing.{number_words}
use Rattle.ep_plan.proofs.print.put_numbers.Given as goal

abbrev pub invariant-loop-number : goal.invariant-loop-number
invariant-loop-number l = l.line.items ≡ l.fn.line.items ++ join_with_byte space (number_words (form_of l.fn.verb).name (take l.number-index l.numbers))
