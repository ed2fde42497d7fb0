use Rattle.std.proofs.Common.{◌≡◌, [], ◌∷◌}
use Rattle.std.specs.Prelude.{true, is_some}
use Rattle.nt_names.specs.Told.{item_of}
use Rattle.pt_report.proofs.Placed.{checked-more}
use Rattle.pt_report.proofs.reading.check_event.Goals as goal

pub returns-then-is_some : goal.returns-then-is_some
returns-then-is_some c = λ before rest checked.
    let there : is_some c.args.misplaced.now ≡ true = cc in
    checked-more before (item_of c.args.event.now rest ∷ []) c.args.report.now c.args.misplaced.now there checked
