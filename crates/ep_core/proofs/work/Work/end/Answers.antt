use Rattle.ep_core.proofs.Working.{tied_once}
use Rattle.ep_core.proofs.work.Work.end.Goals as goal

pub end-requires-clause-tied : goal.end-requires-clause-tied
end-requires-clause-tied c = tied_once c.requires.goes

pub returns : goal.returns
returns c =
    c.a_machine_follows_an_end.ensures c.args.on.thread c.args.self.now.tables _ c.args.self.now.begun.items c.end.ensures.made c.end.ensures.tied
