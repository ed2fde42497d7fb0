use Rattle.std.proofs.Common.{ap}
use Rattle.ep_plan.specs.declared.line.LineKind.TheVariants as kind
use Rattle.ep_plan.specs.Lines.{Id, unless}
use Rattle.ep_plan.proofs.CursorWords.{took-part}
use Rattle.ep_plan.proofs.cursor.Cursor.spelled_id.Goals as goal

pub returns-in-Some-clause-took : goal.returns-in-Some-clause-took
returns-in-Some-clause-took c =
    let found = c.in-Some.ensures in
    (_, took-part Id _ _ _ (c.pass.ensures found.0) (ap (λ o. unless o kind.Hex) found.1), found.1)
