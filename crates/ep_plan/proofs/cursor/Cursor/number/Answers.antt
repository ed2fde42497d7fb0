use Rattle.std.proofs.Common.{IfOk, subst}
use Rattle.ep_plan.specs.declared.cursor.Cursor.{Cursor}
use Rattle.ep_plan.specs.Lines.{Number, number_of}
use Rattle.ep_plan.specs.Cursor.{TakesPart, IsBad, IfBad}
use Rattle.ep_plan.proofs.cursor.Cursor.number.Goals as goal

pub returns-in-None-clause-took : goal.returns-in-None-clause-took
returns-in-None-clause-took c =
    let Takes : Cursor → Type 0 = λ cursor. IfOk c.whole_number.result (TakesPart Number number_of cursor c.whole_number.new.self) in
    subst Takes (c.short_number.ensures.none c.in-None.is) c.whole_number.ensures.took

pub returns-in-None-clause-bad : goal.returns-in-None-clause-bad
returns-in-None-clause-bad c =
    let Bad : Cursor → Type 0 = λ cursor. IfBad c.whole_number.result (IsBad Number cursor) in
    subst Bad (c.short_number.ensures.none c.in-None.is) c.whole_number.ensures.bad
