use Rattle.ep_core.proofs.Working.{tied_once}
use Rattle.ep_core.proofs.work.Work.give.Goals as goal

pub give-requires-clause-tied : goal.give-requires-clause-tied
give-requires-clause-tied c = tied_once c.requires.goes

pub returns : goal.returns
returns c =
    c.a_machine_follows_a_give.ensures c.args.of.session c.args.self.now.tables _ c.args.self.now.begun.items c.give.ensures.made c.give.ensures.tied
