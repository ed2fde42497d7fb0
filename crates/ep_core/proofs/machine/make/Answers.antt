use Rattle.std.proofs.Common.{sym, subst}
use Rattle.ep_tables.specs.declared.judged.Judged.{Judged}
use Rattle.ep_core.specs.state.Works.{MakesWith, EndedFollowOnWith}
use Rattle.ep_core.proofs.machine.make.Goals as goal

pub returns-in-Leave-clause-works : goal.returns-in-Leave-clause-works
returns-in-Leave-clause-works c =
    let Makes : Judged → Type 0 = λ j. MakesWith c.args.info.now j c.args.work.now c.leave.new.self in
    subst Makes (sym c.in-Leave.is) (c.leave.ensures c.args.info.now)

pub returns-in-Begin-clause-works : goal.returns-in-Begin-clause-works
returns-in-Begin-clause-works c =
    let Makes : Judged → Type 0 = λ j. MakesWith c.args.info.now j c.args.work.now c.begin.new.self in
    subst Makes (sym c.in-Begin.is) (c.begin.ensures c.args.info.now)

pub returns-in-Show-clause-works : goal.returns-in-Show-clause-works
returns-in-Show-clause-works c =
    let Makes : Judged → Type 0 = λ j. MakesWith c.args.info.now j c.args.work.now c.show.new.self in
    subst Makes (sym c.in-Show.is) (c.show.ensures c.args.info.now)

pub returns-in-End-clause-works : goal.returns-in-End-clause-works
returns-in-End-clause-works c =
    let Makes : Judged → Type 0 = λ j. MakesWith c.args.info.now j c.args.work.now c.end.new.self in
    subst Makes (sym c.in-End.is) (c.end.ensures c.args.info.now)

pub returns-in-Give-clause-works : goal.returns-in-Give-clause-works
returns-in-Give-clause-works c =
    let Makes : Judged → Type 0 = λ j. MakesWith c.args.info.now j c.args.work.now c.give.new.self in
    subst Makes (sym c.in-Give.is) (c.give.ensures c.args.info.now)

pub returns-in_ok-enter-in-Enter-clause-works : goal.returns-in_ok-enter-in-Enter-clause-works
returns-in_ok-enter-in-Enter-clause-works c =
    let Makes : Judged → Type 0 = λ j. MakesWith c.args.info.now j c.args.work.now c.enter.new.self in
    subst Makes (sym c.in-Enter.is) (c.in_ok-enter-in-Enter.ensures c.args.info.now)

pub returns-in_ok-open-in-Open-clause-works : goal.returns-in_ok-open-in-Open-clause-works
returns-in_ok-open-in-Open-clause-works c =
    let Makes : Judged → Type 0 = λ j. MakesWith c.args.info.now j c.args.work.now c.open.new.self in
    subst Makes (sym c.in-Open.is) (c.in_ok-open-in-Open.ensures c.args.info.now)

pub returns-in_ok-steal-in-Steal-clause-works : goal.returns-in_ok-steal-in-Steal-clause-works
returns-in_ok-steal-in-Steal-clause-works c =
    let Makes : Judged → Type 0 = λ j. MakesWith c.args.info.now j c.args.work.now c.steal.new.self in
    subst Makes (sym c.in-Steal.is) (c.in_ok-steal-in-Steal.ensures c.args.info.now)

pub returns-in_ok-point-in-Point-clause-works : goal.returns-in_ok-point-in-Point-clause-works
returns-in_ok-point-in-Point-clause-works c =
    let Makes : Judged → Type 0 = λ j. MakesWith c.args.info.now j c.args.work.now c.point.new.self in
    subst Makes (sym c.in-Point.is) (c.in_ok-point-in-Point.ensures c.args.info.now)

pub returns-in_ok-close-in-Close-clause-works : goal.returns-in_ok-close-in-Close-clause-works
returns-in_ok-close-in-Close-clause-works c =
    let Makes : Judged → Type 0 = λ j. MakesWith c.args.info.now j c.args.work.now c.close.new.self in
    subst Makes (sym c.in-Close.is) (c.in_ok-close-in-Close.ensures c.args.info.now)

pub returns-in_ok-finish-in-Finish-clause-works : goal.returns-in_ok-finish-in-Finish-clause-works
returns-in_ok-finish-in-Finish-clause-works c =
    let Makes : Judged → Type 0 = λ j. MakesWith c.args.info.now j c.args.work.now c.finish.new.work in
    subst Makes (sym c.in-Finish.is) (c.in_ok-finish-in-Finish.ensures.works c.args.info.now)

pub returns-in_ok-finish-in-Finish-clause-ended : goal.returns-in_ok-finish-in-Finish-clause-ended
returns-in_ok-finish-in-Finish-clause-ended c =
    let Keeps : Judged → Type 0 = λ j. EndedFollowOnWith c.args.info.now j c.args.work.now c.args.ended.now c.finish.new.ended in
    subst Keeps (sym c.in-Finish.is) (c.in_ok-finish-in-Finish.ensures.ended c.args.info.now)
