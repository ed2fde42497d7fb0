use Rattle.std.proofs.Common.{sym, subst}
use Rattle.ep_model.specs.declared.step.Step.{Step}
use Rattle.ep_tables.specs.Judged.{Judges}
use Rattle.ep_tables.proofs.tables.Tables.judged.Goals as goal

pub returns-in-Accept : goal.returns-in-Accept
returns-in-Accept c = subst (λ (s : Step). Judges c.args.self.now s c.to_accept.result) (sym c.in-Accept.is) c.to_accept.ensures

pub returns-in-Enter : goal.returns-in-Enter
returns-in-Enter c = subst (λ (s : Step). Judges c.args.self.now s c.to_enter.result) (sym c.in-Enter.is) c.to_enter.ensures

pub returns-in-Leave : goal.returns-in-Leave
returns-in-Leave c = subst (λ (s : Step). Judges c.args.self.now s c.to_leave.result) (sym c.in-Leave.is) c.to_leave.ensures

pub returns-in-Open : goal.returns-in-Open
returns-in-Open c = subst (λ (s : Step). Judges c.args.self.now s c.to_open.result) (sym c.in-Open.is) c.to_open.ensures

pub returns-in-Begin : goal.returns-in-Begin
returns-in-Begin c = subst (λ (s : Step). Judges c.args.self.now s c.to_begin.result) (sym c.in-Begin.is) c.to_begin.ensures

pub returns-in-Show : goal.returns-in-Show
returns-in-Show c = subst (λ (s : Step). Judges c.args.self.now s c.to_show.result) (sym c.in-Show.is) c.to_show.ensures

pub returns-in-End : goal.returns-in-End
returns-in-End c = subst (λ (s : Step). Judges c.args.self.now s c.to_end.result) (sym c.in-End.is) c.to_end.ensures

pub returns-in-Steal : goal.returns-in-Steal
returns-in-Steal c = subst (λ (s : Step). Judges c.args.self.now s c.to_steal.result) (sym c.in-Steal.is) c.to_steal.ensures

pub returns-in-Give : goal.returns-in-Give
returns-in-Give c = subst (λ (s : Step). Judges c.args.self.now s c.to_give.result) (sym c.in-Give.is) c.to_give.ensures

pub returns-in-Point : goal.returns-in-Point
returns-in-Point c = subst (λ (s : Step). Judges c.args.self.now s c.to_point.result) (sym c.in-Point.is) c.to_point.ensures

pub returns-in-Close : goal.returns-in-Close
returns-in-Close c = subst (λ (s : Step). Judges c.args.self.now s c.to_close.result) (sym c.in-Close.is) c.to_close.ensures

pub returns-in-Finish : goal.returns-in-Finish
returns-in-Finish c = subst (λ (s : Step). Judges c.args.self.now s c.to_finish.result) (sym c.in-Finish.is) c.to_finish.ensures
