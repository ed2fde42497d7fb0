use Rattle.std.proofs.Common.{sym, ◌∙◌, arith}
use Rattle.ep_plan.proofs.Numerals.{number_in-le}
use Rattle.ep_auto.proofs.fields.level.Goals as goal

pub overflow_cast-result : goal.overflow_cast-result
overflow_cast-result c =
    let small = number_in-le c.from.result c.args.field.now c.in_ok-level.level (sym c.number.ensures ∙ c.in_ok-level.was) in
    omega (arith, small, c.from.ensures)
