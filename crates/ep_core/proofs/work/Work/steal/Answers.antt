use Rattle.std.proofs.Math.Logic.{∥∥₁_elim}
use Rattle.ep_core.proofs.Working.{ok_made, tied_once}
use Rattle.ep_core.proofs.work.Work.steal.Goals as goal

pub steal-requires-clause-tied : goal.steal-requires-clause-tied
steal-requires-clause-tied c = tied_once c.requires.goes

pub in_memory-requires : goal.in_memory-requires
in_memory-requires c is =
    ∥∥₁_elim c.requires.goes (hlevel) (λ goes.
    c.stack_ids_suffice.ensures.steal c.args.both.of.session c.args.both.on.thread c.args.self.now.tables c.args.self.now.begun.items goes (c.steal.ensures.long is))

pub returns : goal.returns
returns c =
    ok_made c.steal.result c.in_memory.result c.in_memory.ensures c.steal.ensures.made c.steal.ensures.tied
    (λ made tied. c.a_machine_follows_a_steal.ensures c.args.both.of.session c.args.both.on.thread c.args.self.now.tables _ c.args.self.now.begun.items made tied)
