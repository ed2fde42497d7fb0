use Rattle.std.proofs.Math.Logic.{∥∥₁_elim}
use Rattle.ep_core.proofs.Working.{ok_made, tied_once}
use Rattle.ep_core.proofs.work.Work.point.Goals as goal

pub point-requires-clause-tied : goal.point-requires-clause-tied
point-requires-clause-tied c = tied_once c.requires.goes

pub in_memory-requires : goal.in_memory-requires
in_memory-requires c is =
    ∥∥₁_elim c.requires.goes (hlevel) (λ goes.
    c.stack_ids_suffice.ensures.point c.args.of.session c.args.stamp c.args.self.now.tables c.args.self.now.begun.items goes (c.point.ensures.long is))

pub returns : goal.returns
returns c =
    ok_made c.point.result c.in_memory.result c.in_memory.ensures c.point.ensures.made c.point.ensures.tied
    (λ made tied. c.a_machine_follows_a_point.ensures c.args.of.session c.args.stamp c.args.self.now.tables _ c.args.self.now.begun.items made tied)
