use Rattle.std.proofs.Math.Logic.{∥∥₁_elim}
use Rattle.ep_core.proofs.Working.{ok_made, tied_once}
use Rattle.ep_core.proofs.work.Work.close.Goals as goal

pub close-requires-clause-tied : goal.close-requires-clause-tied
close-requires-clause-tied c = tied_once c.requires.goes

pub in_memory-requires : goal.in_memory-requires
in_memory-requires c is =
    ∥∥₁_elim c.requires.goes (hlevel) (λ goes.
    c.stack_ids_suffice.ensures.close c.args.both.of.session c.args.both.on.thread c.args.self.now.tables c.args.self.now.begun.items goes (c.close.ensures.long is))

pub returns : goal.returns
returns c =
    ok_made c.close.result c.in_memory.result c.in_memory.ensures c.close.ensures.made c.close.ensures.tied
    (λ made tied. c.a_machine_follows_a_close.ensures c.args.both.of.session c.args.both.on.thread c.args.self.now.tables _ c.args.self.now.begun.items made tied)
