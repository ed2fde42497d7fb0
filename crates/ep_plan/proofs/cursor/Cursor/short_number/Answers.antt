use Rattle.std.proofs.Common.{ap, arith}
use Rattle.ep_plan.specs.declared.line.LineKind.TheVariants as kind
use Rattle.ep_plan.specs.Lines.{Number, unless}
use Rattle.ep_plan.proofs.CursorWords.{took-part}
use Rattle.ep_plan.proofs.cursor.Cursor.short_number.Goals as goal

pub returns-clause-took : goal.returns-clause-took
returns-clause-took c =
    let found = c.in_ok-number.ensures.word in
    (_, took-part Number _ _ _ (c.pass.ensures found.0) (ap (λ o. unless o kind.Number) found.1), found.1)

pub overflow_cast-result : goal.overflow_cast-result
overflow_cast-result c = omega (arith, c.in_ok-number.ensures.most)
