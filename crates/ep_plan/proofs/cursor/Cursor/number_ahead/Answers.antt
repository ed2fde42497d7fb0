use Rattle.std.proofs.Common.{Some, sym, ap, ◌∙◌, arith}
use Rattle.ep_plan.proofs.Ahead.{decimal_ahead, digits_word}
use Rattle.ep_plan.proofs.cursor.Cursor.number_ahead.Goals as goal

pub returns-then-ends-clause-word : goal.returns-then-ends-clause-word
returns-then-ends-clause-word c =
    let text = c.in-Some.text.now in
    let read = c.leading-number.ensures in
    let count = c.leading-number.result.1 in (
      record { text = c.in-Some.text; rest = c.in-Some.is; word = digits_word 10 text count (omega arith) (omega arith) read.within read.digits (c.ends.ensures c.if-ends.true) },
      decimal_ahead c.args.most text count (omega arith) (omega (arith, read.few)) read.within read.digits (omega (arith, read.value)) ∙ ap Some (sym read.value),
    )
