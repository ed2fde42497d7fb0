use Rattle.std.proofs.Common.{◌≡◌, [], ◌∷◌}
use Rattle.std.specs.Prelude.{true, is_some}
use Rattle.pt_report.proofs.Placed.{checked-more}
use Rattle.pt_report.proofs.reading.check.Goals as goal

pub returns-then-is_some : goal.returns-then-is_some
returns-then-is_some c = λ before checked.
    let there : is_some c.args.misplaced.now ≡ true = cc in
    checked-more before (c.args.item.now ∷ []) c.args.report.now c.args.misplaced.now there checked
