use Rattle.std.proofs.Common.{◌∙◌, None, sym, subst}
use Rattle.ep_live.specs.RowSet.{LiveRowsState}
use Rattle.pt_listen.specs.state.Hearing.{IsHearing}
use Rattle.pt_listen.proofs.Telling.{hearing-moved}
use Rattle.pt_listen.proofs.hearing.Hearing.lend.Goals as goal

pub invariant_of-hearing : goal.invariant_of-hearing
invariant_of-hearing g c =
    let old = c.self.inside in
    subst (λ (set : LiveRowsState). IsHearing g.K.Callback.has_heard g.P.Program.rows g.P.Program.events g.P.Program.writes g.P.WatchRun.config g.P.WatchRun.at_first 0 0 old.slot set old.hands.items old.listener) (sym c.lend-halves.ensures.lent)
    (hearing-moved g.K.Callback.has_heard g.P.Program.rows g.P.Program.events g.P.Program.writes g.P.WatchRun.config g.P.WatchRun.at_first 0 0 old.slot old.rows old.hands.items old.listener None c.self.invariant)

pub returns-clause-halves : goal.returns-clause-halves
returns-clause-halves g c index is = c.lend-halves.ensures.halves index (c.self.view_is ∙ is)
