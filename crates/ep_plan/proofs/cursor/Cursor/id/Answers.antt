use Rattle.std.proofs.Common.{take, ap}
use Rattle.ep_plan.specs.declared.line.LineKind.TheVariants as kind
use Rattle.ep_plan.specs.Lines.{Id, unless}
use Rattle.ep_plan.proofs.Ahead.{dash_id}
use Rattle.ep_plan.proofs.CursorWords.{took-part}
use Rattle.ep_plan.proofs.cursor.Cursor.id.Goals as goal

pub returns-then-dash_ahead-clause-took : goal.returns-then-dash_ahead-clause-took
returns-then-dash_ahead-clause-took c =
    let found = c.dash_ahead.ensures c.if-dash_ahead.true in
    let spelled = dash_id (take 1 found.0.text.now) found.1 in
    (take 1 found.0.text.now, took-part Id _ _ _ (c.pass.ensures found.0) (ap (λ o. unless o kind.Hex) spelled), spelled)
