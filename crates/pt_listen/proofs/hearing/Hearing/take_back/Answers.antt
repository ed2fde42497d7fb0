use Rattle.std.proofs.Common.{Some, ap, sym, subst}
use Rattle.ep_live.specs.RowSet.{LiveRowsState}
use Rattle.pt_listen.specs.state.Hearing.{IsHearing}
use Rattle.pt_listen.proofs.Telling.{hearing-moved}
use Rattle.pt_listen.proofs.hearing.Hearing.take_back.Goals as goal

pub invariant_of-result : goal.invariant_of-result
invariant_of-result g c =
    let old = c.self.inside in
    subst (λ (set : LiveRowsState). IsHearing g.K.Callback.has_heard g.P.Program.rows g.P.Program.events g.P.Program.writes g.P.WatchRun.config g.P.WatchRun.at_first 0 0 old.slot set old.hands.items old.listener) (sym c.take_back.ensures)
    (hearing-moved g.K.Callback.has_heard g.P.Program.rows g.P.Program.events g.P.Program.writes g.P.WatchRun.config g.P.WatchRun.at_first 0 0 old.slot old.rows old.hands.items old.listener (Some c.args.index) c.self.invariant)

pub returns : goal.returns
returns g c = ap (λ (set : LiveRowsState). set.stands) c.take_back.ensures
