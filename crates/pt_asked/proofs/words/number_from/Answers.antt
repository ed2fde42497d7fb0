-- A number that was read is at most the bound.
use Rattle.std.proofs.Common.{sym, ◌∙◌, arith}
use Rattle.ep_plan.proofs.Numerals.{number_in-le}
use Rattle.pt_asked.proofs.words.number_from.Goals as goal

pub overflow_cast-value : goal.overflow_cast-value
overflow_cast-value c =
    let small = number_in-le c.from.result c.args.word.now c.in_ok-value.field-0 (sym c.number.ensures ∙ c.in_ok-value.was) in
    omega (arith, small, c.from.ensures, c.ranges.most)

pub returns-clause-high : goal.returns-clause-high
returns-clause-high c =
    let small = number_in-le c.from.result c.args.word.now c.in_ok-value.field-0 (sym c.number.ensures ∙ c.in_ok-value.was) in
    omega (arith, small, c.from.ensures)
