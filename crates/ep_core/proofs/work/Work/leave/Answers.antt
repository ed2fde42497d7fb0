use Rattle.ep_core.proofs.Working.{tied_once}
use Rattle.ep_core.proofs.work.Work.leave.Goals as goal

pub leave-requires-clause-tied : goal.leave-requires-clause-tied
leave-requires-clause-tied c = tied_once c.requires.goes

pub returns : goal.returns
returns c =
    c.a_machine_follows_a_leave.ensures c.args.on.thread c.args.self.now.tables _ c.args.self.now.begun.items c.leave.ensures.made c.leave.ensures.tied
