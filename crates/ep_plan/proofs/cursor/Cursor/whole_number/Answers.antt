use Rattle.std.proofs.Common.{◌-◌, ◌^◌, rules, refl, arith}
use Rattle.std.proofs.lemmas.Result.{err_from_is_err_and}
use Rattle.ep_plan.specs.Lines.{Number, number_of}
use Rattle.ep_plan.proofs.Numerals.{number_in-le}
use Rattle.ep_plan.proofs.CursorWords.{through}
use Rattle.ep_plan.proofs.cursor.Cursor.whole_number.Goals as goal

pub returns-in_err-number-clause-bad : goal.returns-in_err-number-clause-bad
returns-in_err-number-clause-bad c = λ line column kind e.
    c.in_err-number.ensures.bad Number number_of (record { fault = λ word. refl; value = λ word result gives. search rules }) line column kind
    (through c.from_residual.result c.in_err-number.field-0.0 (err_from_is_err_and c.from_residual.result c.from_residual.ensures.1) line column kind e)

pub overflow_cast-result : goal.overflow_cast-result
overflow_cast-result c =
    let took = c.in_ok-number.ensures.took Number number_of (record { fault = λ word. refl; value = λ word result gives. search rules }) in
    let most = number_in-le (2 ^ 32 - 1) took.0 c.in_ok-number.number took.2 in
    omega arith
