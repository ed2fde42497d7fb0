use Rattle.ep_core.proofs.Working.{ok_both, tied_once}
use Rattle.ep_core.proofs.work.Work.enter.Goals as goal

pub enter-requires-clause-tied : goal.enter-requires-clause-tied
enter-requires-clause-tied c = tied_once c.requires.goes

pub returns : goal.returns
returns c =
    ok_both c.enter.result c.enter.ensures.made c.enter.ensures.tied
    (λ made tied. c.a_machine_follows_an_enter.ensures c.args.on.thread c.args.self.now.tables _ c.args.self.now.begun.items made tied)
