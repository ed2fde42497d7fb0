use Rattle.std.proofs.Math.Logic.{∥∥₁_elim}
use Rattle.std.proofs.Math.Bridge.{le_prop}
use Rattle.ep_core.proofs.Working.{ok_made, tied_once}
use Rattle.ep_core.proofs.work.Work.accept.Goals as goal

pub accept-requires-clause-tied : goal.accept-requires-clause-tied
accept-requires-clause-tied c = tied_once c.requires.goes

pub accept-requires-clause-few : goal.accept-requires-clause-few
accept-requires-clause-few c =
    ∥∥₁_elim c.requires.goes le_prop (λ goes.
    c.a_session_that_comes_has_an_id.ensures c.args.session c.args.config c.args.self.now.tables c.args.self.now.begun.items c.ranges.session.fits goes)

pub in_memory-requires : goal.in_memory-requires
in_memory-requires c is = c.accept.ensures.not_long is

pub returns : goal.returns
returns c =
    ok_made c.accept.result c.in_memory.result c.in_memory.ensures c.accept.ensures.made c.accept.ensures.tied
    (λ made tied. c.a_machine_follows_an_accept.ensures c.args.info.now c.args.session c.args.config c.args.self.now.tables _ c.args.self.now.begun.items made tied)
