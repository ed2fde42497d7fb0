use Rattle.std.proofs.Common.{◌≡◌, Err, [], ◌∷◌, ◌++◌}
use Rattle.std.specs.Prelude.{true, false, is_some}
use Rattle.pt_events.specs.state.Read.{IsChecked}
use Rattle.nt_blocks.specs.Ordered.{kinds_of}
use Rattle.nt_check.specs.declared.checker.CheckFault.TheVariants.{Bad}
use Rattle.pt_events.proofs.Placed.{checked-more, same-checked, item-listed, item-misplaced}
use Rattle.pt_events.proofs.reading.list.Goals as goal

pub returns-then-is_some : goal.returns-then-is_some
returns-then-is_some c = λ before text checked.
    let there : is_some c.args.misplaced.now ≡ true = cc in
    same-checked c.args.form (before ++ c.args.item.now ∷ []) text c.args.out.now.items c.args.listing.now c.args.misplaced.now
    (checked-more c.args.form before (c.args.item.now ∷ []) text c.args.listing.now c.args.listing.now c.args.misplaced.now there checked)

pub returns-in-Ok : goal.returns-in-Ok
returns-in-Ok c = λ before text checked.
    let apart : is_some c.args.misplaced.now ≡ false = cc in
    item-listed c.args.form before c.args.item.now text c.args.out.now.items c.item.new.out.items c.args.listing.now c.item.new.self c.args.misplaced.now apart checked
    (λ had. (c.in-Ok.ensures.listed (kinds_of before) had, c.in-Ok.ensures.lines (kinds_of before) had))

pub returns-in-Err-Bad : goal.returns-in-Err-Bad
returns-in-Err-Bad c = λ before text checked.
    let apart : is_some c.args.misplaced.now ≡ false = cc in
    let is : c.item.result ≡ Err (Bad c.in-Err-Bad.kind) = rw c.in-Err-Bad.field-0-is at c.in-Err-Bad.is in
    item-misplaced c.args.form before c.args.item.now text c.args.out.now.items c.item.new.out.items c.args.listing.now c.item.new.self c.args.misplaced.now c.in-Err-Bad.kind apart checked
    (λ had. c.item.ensures.refused (kinds_of before) had c.in-Err-Bad.kind is) (c.item.ensures.unchanged c.in-Err-Bad.kind is)
