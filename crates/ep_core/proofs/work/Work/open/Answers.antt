use Rattle.ep_core.proofs.Working.{ok_both, tied_once}
use Rattle.ep_core.proofs.work.Work.open.Goals as goal

pub open-requires-clause-tied : goal.open-requires-clause-tied
open-requires-clause-tied c = tied_once c.requires.goes

pub returns : goal.returns
returns c =
    ok_both c.open.result c.open.ensures.made c.open.ensures.tied
    (λ made tied. c.a_machine_follows_an_open.ensures c.args.both.of.session c.args.both.on.thread c.args.self.now.tables _ c.args.self.now.begun.items made tied)
